-- A body that is read ends with the right FCS, so damage that the CRC detects is refused. Assumes nothing.
use mathlib.Core.Path.{◌≡◌, refl, sym, ap, ◌∙◌}
use mathlib.Core.List.{List, [], ◌∷◌, ◌++◌}
use Prim.Native.Nat.{ℕ, ◌/◌, ◌%◌}
use native.Mathlib.Omega.{arith}
use lib.ListN.{drop, get_or}
use Rattle.base.specs.Bytes.{Bytes}
use Rattle.base.proofs.Bytes.{bytes_cons, bytes_tail}
use Rattle.crc.specs.Crc.{crc_of, Fcs}
use Rattle.stuffing.specs.Stuffing.{stuff, unstuff}
use Rattle.wire.specs.Body.{fcs_of, read_body}
use Rattle.laying.specs.Laying.{body_with}
use Rattle.std.specs.Prelude.{Option, Some, Ok}
use Rattle.stuffing.proofs.StuffingBothWays.{unstuff_stuff}
use Rattle.laying.proofs.LineBytes.{stuffed_bytes}
use Rattle.laying.proofs.BodyBothWays.{read_then_laid}
use Rattle.burst.specs.Promise.{Checked}
use Rattle.burst.specs.OnTheLine.{OnTheLine, plain}
use Rattle.burst.proofs.Both.{bus_bursts, bus_odd}

pub checked_plain : (a : ℕ) (xs : List ℕ) → Checked (crc_of Fcs) (plain a xs)
unfolding fcs_of
checked_plain a xs =
    record { covered = a ∷ xs; high = crc_of Fcs (a ∷ xs) / 256; low = crc_of Fcs (a ∷ xs) % 256; made = refl; right = omega arith }

-- stuffing is lossless
pub unstuffed_same : (xs ys : List ℕ) → stuff xs ≡ stuff ys → xs ≡ ys
unstuffed_same xs ys e =
    let p : ◌≡◌ {A = Option (List ℕ)} (Some xs) (Some ys) = sym (unstuff_stuff xs) ∙ ap unstuff e ∙ unstuff_stuff ys in
    cc

module _ (b : ℕ) (ys : List ℕ) (a : ℕ) (xs : List ℕ) (h : Bytes (b ∷ ys)) (t : read_body (b ∷ stuff ys) ≡ Ok (a, xs)) where
  -- what is read is the body of its address and data
  pub read_plain : b ∷ ys ≡ plain a xs
  unfolding body_with
  read_plain =
      let f = fcs_of a xs in
      let e = (read_then_laid (b ∷ stuff ys) a xs (bytes_cons b (stuff ys) (h 0) (stuffed_bytes ys (bytes_tail b ys h))) t).laid in
      let first : b ≡ a = ap (λ (l : List ℕ). get_or l 0 0) e in
      let rest : stuff ys ≡ stuff (xs ++ (f / 256 ∷ f % 256 ∷ [])) = ap (drop 1) e in
      ap (λ (n : ℕ). n ∷ ys) first ∙ ap (λ (l : List ℕ). a ∷ l) (unstuffed_same ys (xs ++ (f / 256 ∷ f % 256 ∷ [])) rest)

  pub checked_read : Checked (crc_of Fcs) (b ∷ ys)
  checked_read =
      let c = checked_plain a xs in
      record { covered = c.covered; high = c.high; low = c.low; made = read_plain ∙ c.made; right = c.right }

pub on_the_line : OnTheLine
on_the_line = record {
  burst = λ i a b xs ys r h g d t. (bus_bursts Fcs).in_frame i (plain a xs) (b ∷ ys) h g d (checked_plain a xs) (checked_read b ys r.0 r.1 g t);
  odd = λ a b xs ys r h g n d t. (bus_odd Fcs).in_frame (plain a xs) (b ∷ ys) h g n d (checked_plain a xs) (checked_read b ys r.0 r.1 g t);
}
