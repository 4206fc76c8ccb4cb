-- Laws of a script that was read: what follows one that fills the room changes nothing; and of any input a script can be read.
-- Assumes nothing.
use mathlib.Core.Bool.{Bool, true, false}
use mathlib.Core.List.{List, [], ◌++◌, append-nil}
use mathlib.Core.Path.{◌≡◌, refl, sym, ap, ◌∙◌}
use Prim.Native.Nat.{ℕ, ◌≤◌, ◌<◌}
use native.Mathlib.Omega.{arith}
use borrow.Author.Tests.{lt-ltb, ltb-true, ltb-false}
use lib.Dec.{ltb}
use lib.ListN.{length, take, drop, length-append, take-append-drop}
use Rattle.std.proofs.lemmas.List.{length-take-le}
use Rattle.base.proofs.Choosing.{or_first}
use Rattle.removals.specs.Removals.{most_bytes, Which, which_of}
use Rattle.removals.proofs.Whole.{which_long}
use Rattle.which.specs.Printing.{which_text}
use Rattle.which.specs.Reading.{room, Reads, Tells}

-- more than 60,000 bytes are too long, whatever follows
long_more : (xs ys : List ℕ) → most_bytes < length xs → which_of xs ≡ which_of (xs ++ ys)
long_more xs ys h =
    sym (which_long xs (or_first _ _ (lt-ltb most_bytes (length xs) h)))
    ∙ which_long (xs ++ ys) (or_first _ _ (lt-ltb most_bytes (length (xs ++ ys)) (omega (arith, length-append xs ys))))

-- so the answer to the bytes that were read is that to the whole input
read_all : (script input : List ℕ) → Reads script input → which_of script ≡ which_of input
read_all script input x = by (ltb (length script) room) refl ∙ ap which_of (sym x.is)
  where
    by : (t : Bool) → ltb (length script) room ≡ t → which_of script ≡ which_of (script ++ x.rest)
    by true t = ap which_of (sym (append-nil script) ∙ ap (λ (ys : List ℕ). script ++ ys) (sym (x.ended (ltb-true (length script) room t))))
    by false t =
        let h : room ≤ length script = ltb-false (length script) room t in
        long_more script x.rest (omega arith)

pub told : (script : List ℕ) (w : Which) (page : List ℕ) → w ≡ which_of script → page ≡ which_text w → Tells script page
told script w page q p = λ input x. p ∙ ap which_text (q ∙ read_all script input x)

-- ---- any input
pub record Script (input : List ℕ) : Type 0 where
  pub script : List ℕ
  pub fits : length script ≤ room
  pub reads : Reads script input

pub any_input : (input : List ℕ) → Script input
any_input input = by (ltb (length input) room) refl
  where
    by : (t : Bool) → ltb (length input) room ≡ t → Script input
    by true t =
        let h : length input < room = ltb-true _ _ t in
        record { script = input; fits = omega arith; reads = record { rest = []; is = sym (append-nil input); ended = λ k. refl } }
    by false t =
        let h : room ≤ length input = ltb-false _ _ t in
        let l : length (take room input) ≡ room = length-take-le room input h in
        record {
          script = take room input;
          fits = omega (arith, l);
          reads = record { rest = drop room input; is = sym (take-append-drop room input); ended = λ k. absurd (omega (arith, l)) };
        }
