-- The bytes of a list of calls read back: the call that stands at a place is the one that was laid down there.
-- Assumes nothing.
use mathlib.Core.List.{List, [], ◌∷◌, ◌++◌, append_assoc}
use mathlib.Core.Path.{◌≡◌, refl, sym, ap, ap₂, ◌∙◌, subst}
use Prim.Native.Nat.{ℕ, ◌+◌, ◌-◌, ◌^◌, ◌≤◌, ◌<◌}
use native.Mathlib.Omega.{arith}
use borrow.Author.Tests.{eq-eqb, ne_eqb}
use lib.ListN.{length, take, drop, length-append, length-drop, take-append-drop}
use lib.Seq.{length-take-le, take_at, drop_at, drop-drop}
use Rattle.base.specs.Bytes.{Bytes, number_at}
use Rattle.base.proofs.Bytes.{bytes_nil, bytes_append}
use Rattle.base.proofs.Choosing.{choose_true, choose_false}
use Rattle.fields.specs.Fields.{laid, fields_at, numbers}
use Rattle.fields.proofs.Tables.{length_laid, bytes_laid, read_back_at}
use Rattle.rules.specs.Calls.{Call, tick, frame}
use Rattle.rules.specs.Good.{BytesCall}
use Rattle.rules.specs.declared.Agent.{Agent}
use Rattle.demand3.specs.Claim.{BytesCalls}
use Rattle.demand3.specs.Reached.{Continues}
use Rattle.runs.specs.CallBytes.{kind_of, port_of, room_of, bytes_in, call_of, heading, heading_size, call_bytes, list_bytes, Makable, Stepped}

-- no list is left out: the bytes of calls whose bodies and inputs are bytes are bytes
bytes_in_lem : (x : Call) → BytesCall x → Bytes (bytes_in x)
bytes_in_lem (tick xs) b = b
bytes_in_lem (frame port body room) b = b

pub list_bytes_lem : (calls : List Call) → BytesCalls calls → Bytes (list_bytes calls)
list_bytes_lem [] b = bytes_nil
list_bytes_lem (x ∷ xs) b =
    bytes_append (call_bytes x) (list_bytes xs) (bytes_append (laid (heading x)) (bytes_in x) (bytes_laid (heading x)) (bytes_in_lem x b.0))
    (list_bytes_lem xs b.1)

-- ---- which call the code makes, by the kind

pub as_tick : (kind port : ℕ) (bytes : List ℕ) (room : ℕ) → kind ≡ 0 → call_of kind port bytes room ≡ tick bytes
as_tick kind port bytes room h = choose_true _ _ (eq-eqb kind 0 h)

pub as_frame : (kind port : ℕ) (bytes : List ℕ) (room : ℕ) → (kind ≡ 0 → ⊥) → call_of kind port bytes room ≡ frame port bytes room
as_frame kind port bytes room n = choose_false _ _ (ne_eqb kind 0 n)

pub continues_as : (a : Agent) (z y : Call) (n answer : ℕ) (b : Agent) → z ≡ y → n ≡ answer → Continues a y answer b → Continues a z n b
continues_as a z y n answer b e d c = subst (λ (w : Call). Continues a w n b) (sym e) (subst (λ (m : ℕ). Continues a y m b) (sym d) c)

same_call : (x : Call) → call_of (kind_of x) (port_of x) (bytes_in x) (room_of x) ≡ x
same_call (tick xs) = refl
same_call (frame port body room) = refl

-- ---- a step

-- where no call stands the bytes are passed over, to the end
pub passed_over : (s : List ℕ) (at room : ℕ) (a : Agent) (answer : ℕ) (b : Agent) (next : ℕ) → next ≡ length s → at < length s
    → ((x : Call) (rest : List ℕ) → drop at s ≡ call_bytes x ++ rest → Makable room x → ⊥)
    → Stepped s at room a answer b next
passed_over s at room a answer b next e h none = record {
  further = omega arith;
  within = omega arith;
  continues = λ x rest e m. absurd (none x rest e m);
  comes_to = λ x rest e m. absurd (none x rest e m);
}

-- a part from one place to the next, by its length
pub part_is : (from len : ℕ) (s : List ℕ) → take (from + len - from) (drop from s) ≡ take len (drop from s)
part_is from len s = let e : from + len - from ≡ len = omega arith in ap (λ (i : ℕ). take i (drop from s)) e

kind_fits : (x : Call) → kind_of x < 256
kind_fits (tick xs) = omega arith
kind_fits (frame port body room) = omega arith

module _ (s : List ℕ) (at room : ℕ) (inside : at < length s) (fits : length s < 2 ^ 64) (room_fits : room < 2 ^ 64)
    (x : Call) (rest : List ℕ) (stands : drop at s ≡ call_bytes x ++ rest) (makable : Makable room x) where
  apart : drop at s ≡ laid (heading x) ++ (bytes_in x ++ rest)
  apart = stands ∙ append_assoc (laid (heading x)) (bytes_in x) rest

  head_length : length (laid (heading x)) ≡ heading_size
  head_length = length_laid (heading x)

  -- how much is left at the place
  pub left_is : length s - at ≡ heading_size + (length (bytes_in x) + length rest)
  left_is =
      sym (length-drop at s) ∙ ap length apart ∙ length-append (laid (heading x)) (bytes_in x ++ rest)
      ∙ ap₂ (λ (m n : ℕ). m + n) head_length (length-append (bytes_in x) rest)

  whole : s ≡ take at s ++ (laid (heading x) ++ (bytes_in x ++ rest))
  whole = sym (take-append-drop at s) ∙ ap (λ (l : List ℕ). take at s ++ l) apart

  -- the numbers of the heading, each at its place
  read : numbers (fields_at s at (1 ∷ 1 ∷ 8 ∷ 8 ∷ [])) ≡ kind_of x ∷ port_of x ∷ room_of x ∷ length (bytes_in x) ∷ []
  read =
      let few : length (bytes_in x) < 256 ^ 8 = omega (arith, left_is) in
      let roomy : room_of x < 256 ^ 8 = omega (arith, makable.1) in
      ap numbers
      (ap₂ (λ (t : List ℕ) (i : ℕ). fields_at t i (1 ∷ 1 ∷ 8 ∷ 8 ∷ [])) whole (sym (length-take-le at s (omega arith)))
      ∙ read_back_at (take at s) (heading x) (bytes_in x ++ rest) (kind_fits x, (makable.0, (roomy, (few, tt)))))

  kind_read : number_at s at 1 ≡ kind_of x
  unfolding fields_at
  kind_read = let e = read in cc

  port_read : number_at s (at + 1) 1 ≡ port_of x
  unfolding fields_at
  port_read = let e = read in cc

  room_read : number_at s (at + 2) 8 ≡ room_of x
  unfolding fields_at
  room_read = let e = read in let p : at + 1 + 1 ≡ at + 2 = omega arith in cc

  pub length_read : number_at s (at + 10) 8 ≡ length (bytes_in x)
  unfolding fields_at
  length_read = let e = read in let p : at + 1 + 1 + 8 ≡ at + 10 = omega arith in cc

  pub room_enough : number_at s (at + 2) 8 ≤ room
  room_enough = omega (arith, room_read, makable.1)

  after_heading : drop (at + heading_size) s ≡ bytes_in x ++ rest
  after_heading = sym (drop-drop heading_size at s) ∙ ap (drop heading_size) apart ∙ drop_at (laid (heading x)) (bytes_in x ++ rest) heading_size head_length

  -- the call that the code makes of what it read is the one that was laid down
  pub makes : (a : Agent) (k p m len answer : ℕ) (bytes : List ℕ) (b : Agent) → k ≡ number_at s at 1 → p ≡ number_at s (at + 1) 1
      → m ≡ number_at s (at + 2) 8 → len ≡ number_at s (at + 10) 8 → bytes ≡ take len (drop (at + heading_size) s)
      → Continues a (call_of k p bytes m) answer b → Continues a x answer b
  makes a k p m len answer bytes b ks ps ms ls bs c =
      let same : bytes ≡ bytes_in x = bs ∙ ap₂ take (ls ∙ length_read) after_heading ∙ take_at (bytes_in x) rest (length (bytes_in x)) refl in
      subst (λ (y : Call). Continues a y answer b)
      (ap (λ (i : ℕ). call_of i p bytes m) (ks ∙ kind_read)
      ∙ ap (λ (i : ℕ). call_of (kind_of x) i bytes m) (ps ∙ port_read)
      ∙ ap (λ (l : List ℕ). call_of (kind_of x) (port_of x) l m) same
      ∙ ap (λ (i : ℕ). call_of (kind_of x) (port_of x) (bytes_in x) i) (ms ∙ room_read)
      ∙ same_call x) c

  pub comes : (len : ℕ) → len ≡ number_at s (at + 10) 8 → drop (at + heading_size + len) s ≡ rest
  comes len ls =
      sym (drop-drop len (at + heading_size) s) ∙ ap₂ drop (ls ∙ length_read) after_heading
      ∙ drop_at (bytes_in x) rest (length (bytes_in x)) refl
