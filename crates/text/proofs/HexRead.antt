-- What reading hex digits into a buffer gave, by its result. Assumes nothing.
use mathlib.Core.Path.{◌≡◌, refl, sym, ap, ◌∙◌}
use mathlib.Core.Bool.{Bool, true, false}
use mathlib.Core.List.{List, ◌++◌}
use Prim.Native.Nat.{ℕ, ◌≤◌}
use borrow.Author.Tests.{le-ltb}
use lib.Dec.{ltb}
use lib.ListN.{length, take, drop}
use lib.Seq.{take_at}
use Rattle.base.specs.Choice.{choose}
use Rattle.base.proofs.Choosing.{absurdly}
use Rattle.text.specs.Hex.{hex_of, hex_left}
use Rattle.text.specs.declared.hex.HexFault.{HexFault}
use Rattle.text.specs.declared.hex.HexFault.TheVariants.{NotHex, NoRoom}
use Rattle.std.specs.Prelude.{Ok, Err, None, Option, Some}

-- bytes: they stand at the start of the buffer
pub bytes_got : (o : Option (List ℕ)) (buf out : List ℕ) (n : ℕ) → Ok n ≡ hex_of (length buf) o → out ≡ hex_left o buf
    → (o ≡ Some (take n out)) × (length (take n out) ≡ n)
bytes_got None buf out n e l = absurdly (cc)
bytes_got (Some bs) buf out n e l = by (ltb (length buf) (length bs)) refl
  where
    by : (t : Bool) → ltb (length buf) (length bs) ≡ t → (◌≡◌ {A = Option (List ℕ)} (Some bs) (Some (take n out))) × (length (take n out) ≡ n)
    by true t = let f : Ok n ≡ Err NoRoom = rw t at e in absurdly (cc)
    by false t =
        let f : Ok n ≡ Ok (length bs) = rw t at e in
        let q : n ≡ length bs = cc in
        let g : out ≡ bs ++ drop (length bs) buf = rw t at l in
        let h : take n out ≡ bs = ap (take n) g ∙ take_at bs (drop (length bs) buf) n (sym q) in
        (ap Some (sym h), ap length h ∙ sym q)

-- not pairs of digits
pub not_hex : (m : ℕ) (o : Option (List ℕ)) → Err NotHex ≡ hex_of m o → o ≡ None
not_hex m None e = refl
not_hex m (Some bs) e = by (ltb m (length bs)) e
  where
    by : (t : Bool) → Err NotHex ≡ choose t (Err NoRoom) (Ok (length bs)) → Some bs ≡ None
    by true e = absurdly (cc)
    by false e = absurdly (cc)

-- no room: never where the bytes are at most m, for a goal P
pub room_never : {P : Type 0} (m : ℕ) (o : Option (List ℕ)) → ((bs : List ℕ) → o ≡ Some bs → length bs ≤ m) → Err NoRoom ≡ hex_of m o → P
room_never m None h e = absurdly (cc)
room_never m (Some bs) h e =
    let f : Err NoRoom ≡ Ok (length bs) = rw (le-ltb m (length bs) (h bs refl)) at e in
    absurdly (cc)

-- so where there is room, what is refused is not pairs of digits
pub none_read : (m : ℕ) (o : Option (List ℕ)) (e : HexFault) → ((bs : List ℕ) → o ≡ Some bs → length bs ≤ m) → Err e ≡ hex_of m o → o ≡ None
none_read m o NotHex h q = not_hex m o q
none_read m o NoRoom h q = room_never m o h q
