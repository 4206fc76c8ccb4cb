-- Laws of what a writer took of a text: the front of it, more of it, a beginning; and of what is printed for an input. Assumes nothing.
use mathlib.Core.Path.{◌≡◌, refl, sym, ap, ◌∙◌}
use mathlib.Core.Bool.{Bool, true, false}
use mathlib.Core.List.{List, [], ◌++◌, append_assoc, append-nil}
use Prim.Native.Nat.{ℕ, ◌-◌}
use native.Mathlib.Omega.{arith}
use lib.ListN.{length, take, drop, length-drop, take-append-drop}
use Rattle.std.specs.Prelude.{None, Some, Ok, Err, OnOk, OnErr}
use Rattle.std.specs.declared.result.Result.{Result}
use Rattle.std.proofs.lemmas.List.{take_all}
use Rattle.std.specs.declared.option.Option.{Option}
use Rattle.std.specs.Io.KnownBytes.{Keeps, Appends, Consumes, IsAtEnd}
use Rattle.console.proofs.KnownLaws.{takes_none, takes_kept, takes_more}
use Rattle.console.specs.Handing.{HandsOn, AppendsFront, Printed, PrintedFront}

-- ---- the front of a page
-- nothing of it
pub hands_none : (a : Option (List ℕ)) (page : List ℕ) → HandsOn a a page page
hands_none a page = record { front = []; all = refl; took = takes_none a }

pub hands_kept : (a b : Option (List ℕ)) (page : List ℕ) → Keeps a b → HandsOn a b page page
hands_kept a b page k = record { front = []; all = refl; took = takes_kept a b k }

-- all of it
pub hands_all : (a b : Option (List ℕ)) (page page' : List ℕ) → Appends a b page → page' ≡ [] → HandsOn a b page page'
hands_all a b page page' p e = record { front = page; all = ap (λ (u : List ℕ). page ++ u) e ∙ append-nil page; took = p }

-- one part behind the other
pub hands_both : (a : Option (List ℕ)) (page : List ℕ) (b : Option (List ℕ)) (rest : List ℕ) → HandsOn a b page rest → (c : Option (List ℕ)) (rest' : List ℕ)
    → HandsOn b c rest rest' → HandsOn a c page rest'
hands_both a page b rest h c rest' k = record {
  front = h.front ++ k.front;
  all = append_assoc h.front k.front rest' ∙ ap (λ (u : List ℕ). h.front ++ u) k.all ∙ h.all;
  took = takes_more a b c h.front k.front h.took k.took;
}

module _ (a : Option (List ℕ)) (page : List ℕ) where
  hands_more : (b : Option (List ℕ)) (rest : List ℕ) (c : Option (List ℕ)) (n : ℕ) → HandsOn a b page rest → Appends b c (take n rest)
      → HandsOn a c page (drop n rest)
  hands_more b rest c n h t = hands_both a page b rest h c (drop n rest) (record { front = take n rest; all = take-append-drop n rest; took = t })

  -- as the code has the rest
  pub hands_part : (b : Option (List ℕ)) (rest : List ℕ) (c : Option (List ℕ)) (n : ℕ) → HandsOn a b page rest → Appends b c (take n rest)
      → HandsOn a c page (take (length rest - n) (drop n rest))
  hands_part b rest c n h t = rw (take_all (length rest - n) (drop n rest) (omega (arith, length-drop n rest))) (hands_more b rest c n h t)

  -- and a beginning of the rest
  pub hands_fails : (b : Option (List ℕ)) (rest : List ℕ) (c : Option (List ℕ)) → HandsOn a b page rest → AppendsFront b c rest → AppendsFront a c page
  hands_fails b rest c h f = record {
    front = h.front ++ f.front;
    rest = f.rest;
    all = append_assoc h.front f.front f.rest ∙ ap (λ (u : List ℕ). h.front ++ u) f.all ∙ h.all;
    took = takes_more a b c h.front f.front h.took f.took;
  }

  -- and all of it
  pub hands_whole : (b : Option (List ℕ)) (rest : List ℕ) (c : Option (List ℕ)) → HandsOn a b page rest → Appends b c rest → Appends a c page
  hands_whole b rest c h t = rw (← h.all) (takes_more a b c h.front rest h.took t)

-- ---- a beginning of a text
-- what was handed on is one of the page
pub hands_front : (a b : Option (List ℕ)) (page page' : List ℕ) → HandsOn a b page page' → AppendsFront a b page
hands_front a b page page' h = record { front = h.front; rest = page'; all = h.all; took = h.took }

-- nothing of it
pub front_none : (a b : Option (List ℕ)) (text : List ℕ) → Keeps a b → AppendsFront a b text
front_none a b text k = hands_front a b text text (hands_kept a b text k)

-- a text of which it is told whether it was written
pub front_told : (a b : Option (List ℕ)) (text : List ℕ) (written : Bool) → (written ≡ true → Appends a b text) → (written ≡ false → Keeps a b)
    → AppendsFront a b text
front_told a b text true t k = hands_front a b text [] (hands_all a b text [] (t refl) refl)
front_told a b text false t k = front_none a b text (k refl)

-- is one of any text that goes on from it
pub front_longer : (a b : Option (List ℕ)) (s t : List ℕ) → AppendsFront a b s → AppendsFront a b (s ++ t)
front_longer a b s t f = record {
  front = f.front;
  rest = f.rest ++ t;
  all = sym (append_assoc f.front f.rest t) ∙ ap (λ (u : List ℕ). u ++ t) f.all;
  took = f.took;
}

-- and one of a text that begins with what was handed on
pub hands_longer : (a b : Option (List ℕ)) (page page' t : List ℕ) → HandsOn a b page page' → HandsOn a b (page ++ t) (page' ++ t)
hands_longer a b page page' t h = record {
  front = h.front;
  all = sym (append_assoc h.front page' t) ∙ ap (λ (u : List ℕ). u ++ t) h.all;
  took = h.took;
}

-- ---- what is known at an error
pub at_error : {T E P : Type 0} (r : Result T E) → P → OnErr r P
at_error (Ok x) p = tt
at_error (Err e) p = p

-- ---- what is printed, where it is known what the reader has: for all of that
module _ (text : List ℕ → List ℕ) (all : List ℕ) (left old new : Option (List ℕ)) where
  pub printed_known : Printed text (Some all) left old new → Appends old new (text all)
  printed_known p = by left p.lost p.last
    where
      by : (o : Option (List ℕ)) → Consumes (Some all) o p.read → (p.ended ≡ true → IsAtEnd o) → Appends old new (text all)
      by None c e = absurd c
      by (Some ys) c e = rw c (p.took ys e)

  pub begun_known : PrintedFront text (Some all) left old new → AppendsFront old new (text all)
  begun_known p = by left p.lost p.last
    where
      by : (o : Option (List ℕ)) → Consumes (Some all) o p.read → (p.ended ≡ true → IsAtEnd o) → AppendsFront old new (text all)
      by None c e = absurd c
      by (Some ys) c e = rw c (p.took ys e)

-- the same text, written in another way
module _ {T E : Type 0} (r : Result T E) (text text' : List ℕ → List ℕ) (same : (xs : List ℕ) → text xs ≡ text' xs) (known left old new : Option (List ℕ)) where
  pub printed_as : OnOk r (Printed text known left old new) → OnOk r (Printed text' known left old new)
  printed_as = by r
    where
      by : (r : Result T E) → OnOk r (Printed text known left old new) → OnOk r (Printed text' known left old new)
      by (Err e) p = tt
      by (Ok x) p = record {
        read = p.read;
        ended = p.ended;
        lost = p.lost;
        last = p.last;
        took = λ rest e. rw (← same (p.read ++ rest)) (p.took rest e);
      }

  pub begun_as : OnErr r (PrintedFront text known left old new) → OnErr r (PrintedFront text' known left old new)
  begun_as = by r
    where
      by : (r : Result T E) → OnErr r (PrintedFront text known left old new) → OnErr r (PrintedFront text' known left old new)
      by (Ok x) p = tt
      by (Err e) p = record {
        read = p.read;
        ended = p.ended;
        lost = p.lost;
        last = p.last;
        took = λ rest e. rw (← same (p.read ++ rest)) (p.took rest e);
      }
