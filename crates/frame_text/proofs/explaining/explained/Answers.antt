-- Without its flags a body is two bytes shorter. Assumes nothing.
use Rattle.std.proofs.Common.{◌≡◌, ℕ, ◌-◌, length, take, drop, sym, ap, ◌∙◌, arith}
use Rattle.frame_text.specs.Explained.{read_text}
use Rattle.frame_text.proofs.ExplainingLaws.{flags_off}
use Rattle.frame_text.proofs.explaining.explained.Goals as goal

pub returns-then-is_flagged : goal.returns-then-is_flagged
returns-then-is_flagged c =
    let t = c.args.text.now in
    let bs = c.args.bytes.now in
    let e : length bs - 1 - 1 ≡ length bs - 2 = omega arith in
    c.read_text.ensures ∙ ap (λ (n : ℕ). read_text t (take n (drop 1 bs))) e ∙ flags_off bs t (sym c.is_flagged.ensures ∙ c.if-is_flagged.true)
