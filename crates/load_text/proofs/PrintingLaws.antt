-- Laws of a cycle's text: how long it is, and that of no cycle or one. Assumes nothing.
use mathlib.Core.Path.{◌≡◌, refl, sym, ap, ◌∙◌}
use mathlib.Core.List.{List, [], ◌∷◌, ◌++◌, append-nil}
use Prim.Native.Nat.{ℕ, ◌+◌, ◌≤◌}
use native.Mathlib.Omega.{arith}
use borrow.Author.Tests.{eq-eqb, ne_eqb}
use lib.Dec.{eqb, leb}
use lib.ListN.{length, length-append}
use Rattle.base.proofs.Choosing.{by_test, choose_true, choose_false}
use Rattle.text.specs.Decimal.{decimal_text}
use Rattle.text.specs.Texts.{with_piece}
use Rattle.text.proofs.DecimalLaws.{decimal_length}
use Rattle.load_text.specs.Shares.{quotient, remainder}
use Rattle.load_text.specs.Printing.{front_text, cycle_text, open_text}
use Rattle.load_text.specs.declared.Cycle.{Cycle}

-- ---- how long the parts are
front_length : (c : Cycle) → length (front_text c) ≤ 42
unfolding front_text
front_length c =
    let q : List ℕ = decimal_text (quotient c.bytes c.tcyc) in
    omega (
      arith,
      decimal_length c.first,
      decimal_length (quotient c.bytes c.tcyc),
      length-append (decimal_text c.first) (0x20 ∷ []),
      length-append (decimal_text c.first ++ (0x20 ∷ [])) q,
      length-append ((decimal_text c.first ++ (0x20 ∷ [])) ++ q) (0x20 ∷ []),
    )

pub cycle_length : (c : Cycle) → length (cycle_text c) ≤ 63
unfolding cycle_text
cycle_length c =
    let r : List ℕ = decimal_text (remainder c.bytes c.tcyc) in
    omega (arith, front_length c, decimal_length (remainder c.bytes c.tcyc), length-append (front_text c) r, length-append (front_text c ++ r) (0x0A ∷ []))

pub open_length : (c : Cycle) → length (open_text c) ≤ 64
unfolding open_text
open_length c = by_test (λ (t : List ℕ). length t ≤ 64) (eqb c.tcyc 0) (λ e. omega arith) (λ e. omega (arith, cycle_length c))

-- ---- no cycle, or one
pub none_open : (c : Cycle) → c.tcyc ≡ 0 → open_text c ≡ []
unfolding open_text
none_open c e = choose_true _ _ (eq-eqb c.tcyc 0 e)

pub one_open : (c : Cycle) → (c.tcyc ≡ 0 → ⊥) → open_text c ≡ cycle_text c
unfolding open_text
one_open c h = choose_false _ _ (ne_eqb c.tcyc 0 h)

module _ (c : Cycle) (room : ℕ) (text : List ℕ) where
  pub none_put : c.tcyc ≡ 0 → (length (open_text c) ≤ 64) × (text ≡ with_piece room text (open_text c))
  unfolding with_piece
  none_put e =
      let n : open_text c ≡ [] = none_open c e in
      (open_length c, by_test (λ (t : List ℕ). text ≡ t) (leb (length text + 0) room) (λ k. sym (append-nil text)) (λ k. refl) ∙ ap (with_piece room text) (sym n))

  pub one_put : (new : List ℕ) → (c.tcyc ≡ 0 → ⊥) → new ≡ with_piece room text (cycle_text c)
      → (length (open_text c) ≤ 64) × (new ≡ with_piece room text (open_text c))
  one_put new h e = (open_length c, e ∙ ap (with_piece room text) (sym (one_open c h)))
