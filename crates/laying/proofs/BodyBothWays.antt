-- A body that was laid down is read back, and a body that is read is the one that would be laid down. Assumes nothing.
use mathlib.Core.Path.{◌≡◌, refl, sym, ap, ◌∙◌, subst}
use mathlib.Core.Bool.{Bool, true, false}
use mathlib.Core.List.{List, [], ◌∷◌, ◌++◌}
use Prim.Native.Nat.{ℕ, ◌+◌, ◌-◌, ◌*◌, ◌/◌, ◌%◌, ◌≤◌, ◌<◌}
use native.Mathlib.Omega.{arith}
use native.Mathlib.Nat.{div-add-mod'}
use lib.Dec.{eqb}
use lib.ListN.{length, take, drop, get_or, replicate}
use lib.Seq.{sets, drop-cons, length-take-le}
use borrow.Author.Tests.{eqb-true}
use Rattle.std.proofs.Math.Option.{some}
use Rattle.std.specs.Prelude.{Option, Some, None, Ok, Err}
use Rattle.base.specs.Bytes.{Bytes}
use Rattle.base.proofs.ListEnds.{last_two}
use Rattle.base.proofs.Bytes.{bytes_tail, bytes_behind}
use Rattle.base.proofs.Ranges.{in_range}
use Rattle.stuffing.specs.Stuffing.{stuff, unstuff}
use Rattle.wire.specs.Body.{ReadBody, reserved_addr, fcs_of, left_in, unstuffed_body, read_body, answer_to_body}
use Rattle.laying.specs.Laying.{body_with, body_of}
use Rattle.wire.specs.declared.LineFault.{LineFault}
use Rattle.stuffing.proofs.StuffingBothWays.{unstuff_stuff, stuff_unstuff}
use Rattle.wire.proofs.BodyLaws.{unstuffed_wrong, unstuffed_short, unstuffed_long, body_short, body_long, body_fits}
use Rattle.wire.proofs.StuffedRead.{by_check, read_stuffed, valid_read, valid_answered}
use Rattle.laying.proofs.LineBytes.{unstuffed_bytes}

-- ---- laid, then read
module _ (a : ℕ) (xs : List ℕ) (r : reserved_addr a ≡ false) (least : 4 ≤ length xs) (most : length xs ≤ 269) where
  -- the address and the data
  pub laid_then_read : read_body (body_of a xs) ≡ Ok (a, xs)
  unfolding body_with
  laid_then_read =
      let fcs : ℕ = fcs_of a xs in
      valid_read xs (fcs / 256) (fcs % 256) most a least (sym (div-add-mod' fcs 256)) r

  -- answered 0, with both
  pub laid_then_answered : answer_to_body (body_of a xs) ≡ (0, some (a, xs))
  unfolding body_with
  laid_then_answered =
      let fcs : ℕ = fcs_of a xs in
      valid_answered xs (fcs / 256) (fcs % 256) most a least (sym (div-add-mod' fcs 256)) r

  -- what it leaves in the lent array: the data, the FCS after them, and zeros
  pub laid_then_left : left_in (Ok (a, length xs)) (unstuff (drop 1 (body_of a xs)))
      ≡ sets (replicate 272 0) 0 (xs ++ (fcs_of a xs / 256 ∷ fcs_of a xs % 256 ∷ []))
  unfolding body_with
  laid_then_left = rw (unstuff_stuff (xs ++ (fcs_of a xs / 256 ∷ fcs_of a xs % 256 ∷ []))) refl

-- ---- read, then laid
module _ (a : ℕ) (xs : List ℕ) where
  refused_not : (e : LineFault) (b : ReadBody) → Err e ≡ b → b ≡ Ok (a, xs) → ⊥
  refused_not e b p t = let z : ◌≡◌ {A = ℕ} 0 1 = cc in omega arith

  -- a valid body has 7 to 543 bytes
  taken_length : (s : List ℕ) → read_body s ≡ Ok (a, xs) → (7 ≤ length s) × (length s ≤ 543)
  taken_length s t =
      in_range 7 543 (length s)
      (λ h. refused_not _ (read_body s) (body_short s h) t)
      (λ g h. refused_not _ (read_body s) (body_long s g h) t)

  -- and unstuffed, without its address, 6 to 271
  taken_size : (c : ℕ) (ys : List ℕ) → unstuffed_body c (Some ys) ≡ Ok (a, xs) → (6 ≤ length ys) × (length ys ≤ 271)
  taken_size c ys t =
      in_range 6 271 (length ys)
      (λ h. refused_not _ (unstuffed_body c (Some ys)) (unstuffed_short c ys h) t)
      (λ g h. refused_not _ (unstuffed_body c (Some ys)) (unstuffed_long c ys g h) t)

  -- so it is an address, and data with two bytes behind them, stuffed
  stuffed_form : {P : Type 0} (s : List ℕ) → read_body s ≡ Ok (a, xs)
      → ((c h l : ℕ) (ys : List ℕ) → s ≡ c ∷ stuff (ys ++ (h ∷ l ∷ [])) → 4 ≤ length ys → length ys ≤ 269 → P) → P
  stuffed_form {P} s t k = of (unstuff (drop 1 s)) refl
    where
      c : ℕ
      c = get_or s 0 0

      n : (7 ≤ length s) × (length s ≤ 543)
      n = taken_length s t

      read_of : (o : Option (List ℕ)) → unstuff (drop 1 s) ≡ o → unstuffed_body c o ≡ Ok (a, xs)
      read_of o e = ap (λ (q : Option (List ℕ)). unstuffed_body c q) (sym e) ∙ body_fits s n.0 n.1 ∙ t

      of : (o : Option (List ℕ)) → unstuff (drop 1 s) ≡ o → P
      of None e = absurd (refused_not _ (unstuffed_body c None) (unstuffed_wrong c) (read_of None e))
      of (Some ys) e =
          let m : ℕ = length ys - 2 in
          let z : (6 ≤ length ys) × (length ys ≤ 271) = taken_size c ys (read_of (Some ys) e) in
          let w : length (take m ys) ≡ m = length-take-le m ys (omega arith) in
          k c (get_or ys m 0) (get_or ys (m + 1) 0) (take m ys)
          (drop-cons s 0 0 (omega (arith, n.0))
          ∙ ap (λ (q : List ℕ). c ∷ q) (stuff_unstuff (drop 1 s) ys e ∙ ap stuff (last_two ys m (omega (arith, z.0)))))
          (omega (arith, w, z.0)) (omega (arith, w, z.1))

-- a body s that was read as an address and data is the one that laying these data for this address gives
pub record Exact (s : List ℕ) (a : ℕ) (xs : List ℕ) : Type 0 where
  pub laid : s ≡ body_of a xs
  pub free : reserved_addr a ≡ false
  pub least : 4 ≤ length xs
  pub most : length xs ≤ 269

module _ (a h l : ℕ) (xs : List ℕ) (s : List ℕ) (e : s ≡ a ∷ stuff (xs ++ (h ∷ l ∷ []))) (least : 4 ≤ length xs) (most : length xs ≤ 269) where
  low_byte : Bytes s → l < 256
  low_byte bs =
      let t : Bytes (stuff (xs ++ (h ∷ l ∷ []))) = bytes_tail a (stuff (xs ++ (h ∷ l ∷ []))) (subst Bytes e bs) in
      bytes_behind xs (h ∷ l ∷ []) (unstuffed_bytes (xs ++ (h ∷ l ∷ [])) t) 1

  laid_as : l < 256 → fcs_of a xs ≡ h * 256 + l → s ≡ body_of a xs
  unfolding body_with
  laid_as lt p =
      let x : fcs_of a xs / 256 ≡ h = omega arith in
      let y : fcs_of a xs % 256 ≡ l = omega arith in
      rw (x, y) e

  exact : (b : ℕ) (ys : List ℕ) → Bytes s → read_body s ≡ Ok (b, ys) → Exact s b ys
  exact b ys bs t = by (eqb (fcs_of a xs) (h * 256 + l)) (reserved_addr a) refl refl
    where
      read : read_body s ≡ by_check a xs h l
      read = ap read_body e ∙ read_stuffed xs h l most a least

      by : (p q : Bool) → eqb (fcs_of a xs) (h * 256 + l) ≡ p → reserved_addr a ≡ q → Exact s b ys
      by false q f g = absurd (refused_not b ys _ (read_body s) (sym (rw f at read)) t)
      by true true f g = absurd (refused_not b ys _ (read_body s) (sym (rw (f, g) at read)) t)
      by true false f g =
          let r : read_body s ≡ Ok (a, xs) = rw (f, g) at read in
          let w : ◌≡◌ {A = ℕ × List ℕ} (a, xs) (b, ys) = cc in
          subst (λ (x : ℕ × List ℕ). Exact s x.0 x.1) w record {
            laid = laid_as (low_byte bs) (eqb-true _ _ f);
            free = g;
            least = least;
            most = most;
          }

pub read_then_laid : (s : List ℕ) (a : ℕ) (xs : List ℕ) → Bytes s → read_body s ≡ Ok (a, xs) → Exact s a xs
read_then_laid s a xs bs t = stuffed_form a xs s t (λ c h l ys e least most. exact c h l ys s e least most a xs bs t)
