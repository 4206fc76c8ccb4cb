use Rattle.std.proofs.Common.{arith, ◌≡◌, ◌∙◌, sym, ap, set, length, ℕ, List, ◌∷◌}
use Rattle.text.specs.Hex.{hex_pairs, stored}
use lib.Seq.{set_out}
use Rattle.text.proofs.HexLaws.{stored_turn}
use Rattle.text.proofs.hex.read_pairs.Goals as goal
use Rattle.text.proofs.hex.read_pairs.Goals.{then-n-out, else-n-out}

pub loop-high-preserved : goal.loop-high-preserved
loop-high-preserved c =
    let l = c.loop-high in
    let e : c.if-n-out.out ≡ set l.out l.n c.in_ok-b.b =
    elim c.if-n-out.branch [ then-n-out w ↦ w.out-is | else-n-out w ↦ w.out-is ∙ sym (set_out l.out l.n _ w.if-n-out.false) ]
    in
    let h = c.in-Some.ensures.steps in
    let k = c.in_ok-next.ensures.steps in
    record {
      fewer = omega (arith, l.invariant.fewer, ap length h, ap length k);
      whole =
          stored_turn c.in-Some.field-0.now c.in_ok-next.field-0.now c.in_ok-b.b l.n _ l.out _ c.in_ok-b.ensures e
          ∙ ap (λ (s : List ℕ). stored l.out l.n (hex_pairs s)) (sym (h ∙ ap (λ (s : List ℕ). c.in-Some.field-0.now ∷ s) k)) ∙ l.invariant.whole;
    }
