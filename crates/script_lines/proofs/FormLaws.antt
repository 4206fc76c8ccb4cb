-- Laws of the forms of a line: what reading hex digits gave, and a law for each case. Assumes nothing.
use Rattle.std.specs.Prelude.{Err, None, Option, Some}
use mathlib.Core.Path.{◌≡◌, refl, sym, ap, ◌∙◌}
use mathlib.Core.Bool.{true, false, not}
use mathlib.Core.List.{List, [], ◌∷◌}
use Prim.Native.Nat.{ℕ, ◌-◌, ◌≤◌, ◌<◌}
use native.Mathlib.Omega.{arith}
use borrow.Author.Tests.{eq-eqb, ne_eqb, lt-ltb, le-ltb, le-leb, lt-leb}
use Rattle.std.proofs.Math.Bool.{and-false}
use Rattle.std.specs.Option.{is_some}
use lib.Dec.{eqb}
use lib.ListN.{length, take, drop, get_or, length-drop}
use lib.Seq.{take_all}
use Rattle.base.specs.Choice.{within}
use Rattle.text.specs.Decimal.{decimal_of}
use Rattle.text.specs.declared.hex.HexFault.{HexFault}
use Rattle.text.specs.declared.hex.HexFault.TheVariants.{NotHex, NoRoom}
use Rattle.text.specs.Hex.{hex_pairs, hex_of}
use Rattle.text.proofs.HexLaws.{pairs_length}
use Rattle.text.proofs.HexRead.{room_never, not_hex}
use Rattle.script_lines.specs.Forms.{Step, inputs, bad, ticks_of, frame_of, inputs_of, form_of, line_of, step_in, is_bad, ticks_form}
use Rattle.script_lines.specs.declared.forms.Form.{Form}
use Rattle.script_lines.specs.declared.forms.Form.TheVariants.{Ticks, Frame, Inputs}

-- a line of 1,200 characters has at most 600 bytes: there is always room
pub not_frame : (s : List ℕ) (m port : ℕ) (e : HexFault) → length s ≤ 1200 → m ≡ 600 → Err e ≡ hex_of m (hex_pairs s) → bad ≡ frame_of port (hex_pairs s)
not_frame s m port NotHex h k e = rw (not_hex m (hex_pairs s) e)
not_frame s m port NoRoom h k e = room_never m (hex_pairs s) (λ bs q. omega (arith, pairs_length s bs q)) e

pub not_inputs : (s : List ℕ) (m : ℕ) (e : HexFault) → length s ≤ 1200 → m ≡ 600 → Err e ≡ hex_of m (hex_pairs s) → bad ≡ inputs_of (hex_pairs s)
not_inputs s m NotHex h k e = rw (not_hex m (hex_pairs s) e)
not_inputs s m NoRoom h k e = room_never m (hex_pairs s) (λ bs q. omega (arith, pairs_length s bs q)) e

-- ---- a line by its form
pub inputs_64 : (o : Option (List ℕ)) (out : List ℕ) (n : ℕ) → (o ≡ Some (take n out)) × (length (take n out) ≡ n) → n ≡ 64
    → inputs (take 64 out) ≡ inputs_of o
inputs_64 o out n g e =
    let q : eqb (length (take 64 out)) 64 ≡ true = eq-eqb (length (take 64 out)) 64 (ap (λ (m : ℕ). length (take m out)) (sym e) ∙ g.1 ∙ e) in
    let d : o ≡ Some (take 64 out) = g.0 ∙ ap (λ (m : ℕ). Some (take m out)) e in
    rw (d, q)

pub inputs_other : (o : Option (List ℕ)) (out : List ℕ) (n : ℕ) → (o ≡ Some (take n out)) × (length (take n out) ≡ n) → (n ≡ 64 → ⊥)
    → bad ≡ inputs_of o
inputs_other o out n g e =
    let q : eqb (length (take n out)) 64 ≡ false = ne_eqb (length (take n out)) 64 (λ f. e (sym g.1 ∙ f)) in
    rw (g.0, q)

pub step_ticks : (d : Option ℕ) (bytes : List ℕ) → step_in (ticks_form d) bytes ≡ ticks_of d
step_ticks (Some n) bytes = refl
step_ticks None bytes = refl

pub step_bad : (f : Option Form) (bytes : List ℕ) → not (is_some f) ≡ is_bad (step_in f bytes)
step_bad (Some (Ticks n)) bytes = refl
step_bad (Some (Frame port n)) bytes = refl
step_bad (Some Inputs) bytes = refl
step_bad None bytes = refl

module _ (c : ℕ) (rest : List ℕ) where
  pub form_ticks : (f : Option Form) (bytes : List ℕ) → c ≡ 0x54 → f ≡ ticks_form (decimal_of 60000 rest) → step_in f bytes ≡ form_of c rest
  unfolding form_of
  form_ticks f bytes e q = ap (λ (x : Option Form). step_in x bytes) q ∙ step_ticks (decimal_of 60000 rest) bytes ∙ rw (eq-eqb c 0x54 e)

  pub form_port : (z : Step) → 0x30 ≤ c → c ≤ 0x39 → z ≡ frame_of (c - 0x30) (hex_pairs rest) → z ≡ form_of c rest
  unfolding form_of
  form_port z l m q = rw (ne_eqb c 0x54 (λ e. omega arith), le-leb 0x30 c l, le-leb c 0x39 m) q

  pub form_inputs : (z : Step) → c ≡ 0x49 → z ≡ inputs_of (hex_pairs rest) → z ≡ form_of c rest
  unfolding form_of
  form_inputs z e q = rw e q

  other : within 0x30 0x39 c ≡ false → (c ≡ 0x54 → ⊥) → (c ≡ 0x49 → ⊥) → bad ≡ form_of c rest
  unfolding form_of
  other p n e = rw (ne_eqb c 0x54 n, p, ne_eqb c 0x49 e)

  pub form_below : c < 0x30 → bad ≡ form_of c rest
  form_below h = other (rw (lt-leb 0x30 c h)) (λ e. omega arith) (λ e. omega arith)

  pub form_above : 0x39 < c → (c ≡ 0x54 → ⊥) → (c ≡ 0x49 → ⊥) → bad ≡ form_of c rest
  form_above h = other (rw (lt-leb c 0x39 h, and-false))

-- ---- the characters of a line
pub text_long : (s : List ℕ) → 1200 < length s → bad ≡ line_of s
unfolding line_of
text_long s h = rw (lt-ltb 1200 (length s) h)

pub text_short : (s : List ℕ) → length s < 2 → bad ≡ line_of s
unfolding line_of
text_short [] h = refl
text_short (a ∷ []) h = refl
text_short (a ∷ b ∷ s) h = absurd (omega arith)

module _ (s : List ℕ) (h : length s ≤ 1200) where
  pub text_other : (get_or s 1 0 ≡ 0x20 → ⊥) → bad ≡ line_of s
  unfolding line_of
  text_other n = rw (le-ltb 1200 (length s) h, ne_eqb (get_or s 1 0) 0x20 n)

  pub text_form : (z : Step) → get_or s 1 0 ≡ 0x20 → z ≡ form_of (get_or s 0 0) (take (length s - 2) (drop 2 s)) → z ≡ line_of s
  unfolding line_of
  text_form z e q =
      rw (le-ltb 1200 (length s) h, eq-eqb (get_or s 1 0) 0x20 e)
      (q ∙ ap (form_of (get_or s 0 0)) (take_all (length s - 2) (drop 2 s) (omega (arith, length-drop 2 s))))
