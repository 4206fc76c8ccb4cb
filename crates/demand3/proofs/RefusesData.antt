-- A write that changes outputs which it does not cover, or to values that are not its data, is refused by the claim.
-- Assumes nothing.
use mathlib.Core.Bool.{Bool, true, false}
use mathlib.Core.List.{List, [], ◌∷◌, ◌++◌}
use mathlib.Core.Path.{◌≡◌, refl, ◌∙◌}
use Prim.Native.Nat.{ℕ, zero, suc, ◌+◌, ◌-◌, ◌/◌, ◌%◌, ◌≤◌, ◌<◌}
use native.Mathlib.Omega.{arith}
use borrow.Author.Tests.{leb-true, leb-false}
use lib.Dec.{leb}
use lib.ListN.{length, get_or, length-append}
use Rattle.base.specs.Bytes.{bytes_of}
use Rattle.crc.specs.Crc.{Safety, crc_of}
use Rattle.fields.specs.Fields.{laid}
use Rattle.laying.specs.Laying.{body_of, body_with}
use Rattle.stuffing.specs.Stuffing.{stuff, stuff_byte}
use Rattle.wire.specs.Body.{fcs_of}
use Rattle.stuffing.proofs.StuffingLaws.{stuff_least}
use Rattle.frame_kinds.specs.Kinds.{head_of, tail_of, app_of, sealed}
use Rattle.frame_kinds.specs.declared.kinds.Frame.TheVariants.{SafeWrite}
use Rattle.rules.specs.Answers.{accepted}
use Rattle.rules.specs.Calls.{frame}
use Rattle.rules.specs.Registers.{outputs_at, image}
use Rattle.rules.specs.State.{in_run}
use Rattle.demand3.specs.Claim.{Written, Holds}
use Rattle.demand3.specs.History.{History, ◌▸◌, Entry, call_entry}
use Rattle.demand3.specs.Sharper.{Among, here, there}
use Rattle.demand3.proofs.Refuses.{shows}
use Rattle.demand3.proofs.RefusesWrites.{must_write, same_body}

-- ---- data bytes stand in the body

among_behind : {x : ℕ} (l : List ℕ) {m : List ℕ} → Among x m → Among x (l ++ m)
among_behind [] a = a
among_behind (y ∷ l) a = there (among_behind l a)

among_before : {x : ℕ} {l : List ℕ} (m : List ℕ) → Among x l → Among x (l ++ m)
among_before m here = here
among_before m (there a) = there (among_before m a)

among_at : (l : List ℕ) (j : ℕ) → j < length l → Among (get_or l j 0) l
among_at [] j h = absurd (omega arith)
among_at (x ∷ l) zero h = here
among_at (x ∷ l) (suc j) h = there (among_at l j (omega arith))

among_stuffed : {l : List ℕ} → Among 7 l → Among 7 (stuff l)
unfolding stuff stuff_byte
among_stuffed here = here
among_stuffed (there {y = y} a) = among_behind (stuff_byte y) (among_stuffed a)

module _ (dest src cyc seq datl add : ℕ) (xs : List ℕ) where
  among_app : Among 7 xs → Among 7 (app_of (SafeWrite dest src cyc seq datl add) xs)
  unfolding app_of sealed
  among_app a = among_before _ (among_behind (laid (head_of (SafeWrite dest src cyc seq datl add))) (among_before _ a))

  app_longer : length xs ≤ length (app_of (SafeWrite dest src cyc seq datl add) xs)
  unfolding app_of sealed
  app_longer =
      let head = laid (head_of (SafeWrite dest src cyc seq datl add)) in
      let tail = laid (tail_of (SafeWrite dest src cyc seq datl add)) in
      let all = head ++ (xs ++ tail) in
      omega (arith, length-append all (bytes_of 2 (crc_of Safety all)), length-append head (xs ++ tail), length-append xs tail)

  among_body : (address : ℕ) → Among 7 xs → Among 7 (body_of address (app_of (SafeWrite dest src cyc seq datl add) xs))
  unfolding body_with
  among_body address a = there (among_stuffed (among_before _ (among_app a)))

  body_longer : (address : ℕ) → length xs ≤ length (body_of address (app_of (SafeWrite dest src cyc seq datl add) xs))
  unfolding body_with
  body_longer address =
      let app = app_of (SafeWrite dest src cyc seq datl add) xs in
      let check = fcs_of address app / 256 ∷ fcs_of address app % 256 ∷ [] in
      omega (arith, stuff_least (app ++ check), length-append app check, app_longer)

at_most : (a b : ℕ) → (b < a → ⊥) → a ≤ b
at_most a b more = pick (leb a b) refl
  where
    pick : (t : Bool) → leb a b ≡ t → a ≤ b
    pick true e = leb-true a b e
    pick false e = absurd (more (leb-false a b e))

-- ---- every output goes from 0 to 7

module _ (past : History) (port : ℕ) (body : List ℕ) (room : ℕ) where
  abbrev pub all-on : Entry
  all-on = call_entry (frame port body room) accepted (shows in_run 0) (shows in_run 7)

  module _ (w : Written past all-on) where
    body_is : body ≡ body_of w.address (app_of (SafeWrite w.dest w.src w.cyc w.seq w.datl w.add) w.xs)
    body_is = same_body w.called ∙ w.laid

    -- so each is covered
    from : (i : ℕ) → i < image → w.add ≤ outputs_at + i
    from i b = at_most w.add (outputs_at + i) (λ p. omega (arith, w.before i b p))

    to : (i : ℕ) → i < image → outputs_at + i < w.add + length w.xs
    to i b = at_most (suc (outputs_at + i)) (w.add + length w.xs) (λ p. omega (arith, w.behind i b (omega arith)))

    long : 64 ≤ length body
    long =
        let n : length w.xs ≤ length body = rw body_is (body_longer w.dest w.src w.cyc w.seq w.datl w.add w.xs w.address) in
        omega (arith, from 0 (omega arith), to 63 (omega arith))

    seven : Among 7 body
    seven =
        let j = outputs_at + 0 - w.add in
        let is : 7 ≡ get_or w.xs j 0 = w.covered 0 (omega arith) (from 0 (omega arith)) (to 0 (omega arith)) in
        let in-data : Among 7 w.xs = rw is (among_at w.xs j (omega (arith, from 0 (omega arith), to 0 (omega arith)))) in
        rw body_is (among_body w.dest w.src w.cyc w.seq w.datl w.add w.xs w.address in-data)

  -- by a body too short for 64 data bytes
  pub uncovered : length body < 64 → Holds (past ▸ all-on) → ⊥
  uncovered short h = omega (arith, long (must_write h (λ e. omega arith) refl))

  -- by a body in which no 7 stands
  pub other_data : (Among 7 body → ⊥) → Holds (past ▸ all-on) → ⊥
  other_data no_seven h = no_seven (seven (must_write h (λ e. omega arith) refl))
