use Rattle.std.proofs.Common.{arith, ◌≡◌, ℕ, ◌+◌, ◌-◌, ◌≤◌, List, ◌++◌, [], length, take, drop, sym, ap, ◌∙◌}
use Rattle.std.proofs.Math.Seq.{drop-drop}
use Rattle.std.proofs.lemmas.List.{drop-take, length-take-le}
use Rattle.std.specs.List.{position}
use Rattle.text.specs.Lines.{is_end}
use Rattle.text.proofs.LineLaws.{found_at, found_none, goes_on_so}
use Rattle.console.specs.Showing.{shown}
use lib.ListN.{drop_of_length-le}
use Rattle.console.proofs.blocks.Block.take_line.Goals as goal

-- what is left of the block, as the code has it
left_is : (bytes : List ℕ) (at end : ℕ) → at ≤ end → take (end - at) (drop at bytes) ≡ drop at (take end bytes)
left_is bytes at end h =
    let n : at + (end - at) ≡ end = omega (arith, h) in
    sym (ap (λ (m : ℕ). drop at (take m bytes)) (sym n) ∙ drop-take at (end - at) bytes)

none_left : (bytes : List ℕ) (end : ℕ) → end ≤ length bytes → drop end (take end bytes) ≡ []
none_left bytes end h = drop_of_length-le (take end bytes) (omega (arith, length-take-le end bytes h))

-- ---- with the line's end
pub returns-in-Some-clause-found : goal.returns-in-Some-clause-found
returns-in-Some-clause-found c =
    let q = left_is _ _ _ c.self.invariant.0 ∙ c.self.view_is in
    sym (found_at _ _ (c.in-Some.ensures ∙ ap (position is_end) q)).has

pub returns-in-Some-clause-line : goal.returns-in-Some-clause-line
unfolding shown
returns-in-Some-clause-line c =
    let q = left_is _ _ _ c.self.invariant.0 ∙ c.self.view_is in
    let f = found_at _ _ (c.in-Some.ensures ∙ ap (position is_end) q) in
    c.fill.ensures ∙ ap (λ (t : List ℕ). shown (c.args.line.now ++ t)) (ap (take c.in-Some.n) q ∙ f.front)

pub returns-in-Some-clause-left : goal.returns-in-Some-clause-left
returns-in-Some-clause-left c =
    let i = c.self.inside in
    let q = left_is _ _ _ c.self.invariant.0 ∙ c.self.view_is in
    let f = found_at _ _ (c.in-Some.ensures ∙ ap (position is_end) q) in
    sym (drop-drop (c.in-Some.n + 1) i.at (take i.end i.bytes)) ∙ ap (drop (c.in-Some.n + 1)) c.self.view_is ∙ f.behind

-- ---- without it
pub returns-in-None-clause-found : goal.returns-in-None-clause-found
returns-in-None-clause-found c =
    let q = left_is _ _ _ c.self.invariant.0 ∙ c.self.view_is in
    sym (found_none _ (c.in-None.ensures ∙ ap (position is_end) q))

pub returns-in-None-clause-line : goal.returns-in-None-clause-line
unfolding shown
returns-in-None-clause-line c =
    let q = left_is _ _ _ c.self.invariant.0 ∙ c.self.view_is in
    let k = goes_on_so _ (found_none _ (c.in-None.ensures ∙ ap (position is_end) q)) in
    c.fill-in-None.ensures ∙ ap (λ (t : List ℕ). shown (c.args.line.now ++ t)) (q ∙ sym k.0)

pub returns-in-None-clause-left : goal.returns-in-None-clause-left
returns-in-None-clause-left c =
    let q = left_is _ _ _ c.self.invariant.0 ∙ c.self.view_is in
    let k = goes_on_so _ (found_none _ (c.in-None.ensures ∙ ap (position is_end) q)) in
    none_left c.self.inside.bytes c.self.inside.end (omega arith) ∙ sym k.1
