-- A good module is good after every line, whatever the line is; so every tick call is answered 0, as the definition has it, and no
-- line is answered 19. And a line sends at most 545 bytes. Assumes nothing.
use Rattle.std.specs.Prelude.{None, Option, Some}
use mathlib.Core.Path.{◌≡◌, refl}
use mathlib.Core.List.{List, [], ◌∷◌}
use Prim.Native.Nat.{ℕ, zero, suc, ◌-◌, ◌≤◌, ◌<◌}
use native.Mathlib.Omega.{arith}
use borrow.Author.Tests.{eq-eqb, eqb-true, ltb-false}
use lib.Dec.{eqb, ltb}
use lib.ListN.{length, drop, get_or, length-drop}
use lib.Seq.{length-take-le}
use Rattle.base.specs.Bytes.{Bytes}
use Rattle.base.specs.Choice.{within}
use Rattle.base.proofs.Bytes.{bytes_nil, bytes_cons, bytes_take, bytes_drop}
use Rattle.base.proofs.Choosing.{by_test}
use Rattle.text.specs.Decimal.{decimal_of}
use Rattle.text.specs.Hex.{digit_value, pair_of, paired, hex_pairs}
use Rattle.rules.specs.Calls as calls
use Rattle.rules.specs.Calls.{least_room, tick_call}
use Rattle.rules.specs.Fixed.{doors_limit, fixed_by}
use Rattle.rules.specs.Good.{Good}
use Rattle.rules.specs.Registers.{inputs_at, image}
use Rattle.rules.specs.declared.Agent.{Agent}
use Rattle.rules.proofs.GoodNext.{good_next}
use Rattle.rules.proofs.GoodStart.{limit_fits, good_start}
use Rattle.rules.proofs.NeverUnsound.{never_unsound}
use Rattle.rules.proofs.ReplyLengths.{sent_most}
use Rattle.script_lines.specs.Forms.{Step, ticks, frame, inputs, bad, longest, most_ticks, ticks_of, frame_of, inputs_of, form_of, line_of}
use Rattle.script_lines.specs.Doing.{script_module, held_inputs, after_ticks, done}

-- ---- what hex digits say is bytes
SaysByte : Option ℕ → Type 0
SaysByte (Some x) = x < 256
SaysByte None = Unit

pair_byte : (a b : ℕ) → SaysByte (pair_of a b)
unfolding pair_of SaysByte
pair_byte a b =
    by_test SaysByte (ltb 15 (digit_value a)) (λ e. tt)
    (λ e. by_test SaysByte (ltb 15 (digit_value b)) (λ f. tt)
    (λ f.
    let h : digit_value a ≤ 15 = ltb-false 15 (digit_value a) e in
    let l : digit_value b ≤ 15 = ltb-false 15 (digit_value b) f in
    omega arith))

SayBytes : Option (List ℕ) → Type 0
SayBytes None = Unit
SayBytes (Some bs) = Bytes bs

pairs_bytes : (s : List ℕ) → SayBytes (hex_pairs s)
unfolding hex_pairs SayBytes SaysByte
pairs_bytes [] = bytes_nil
pairs_bytes (a ∷ []) = tt
pairs_bytes (a ∷ b ∷ s) = joined (pair_of a b) (hex_pairs s) (pair_byte a b) (pairs_bytes s)
  where
    joined : (p : Option ℕ) (o : Option (List ℕ)) → SaysByte p → SayBytes o → SayBytes (paired p o)
    joined (Some x) None h k = tt
    joined (Some x) (Some bs) h k = bytes_cons x bs h k
    joined None o h k = tt

-- ---- so a line's body and inputs are bytes, and there are 64 inputs
pub Sized : Step → Type 0
Sized (ticks n) = Unit
Sized (frame port body) = Bytes body
Sized (inputs xs) = (length xs ≡ 64) × Bytes xs
Sized bad = Unit

ticks_sized : (d : Option ℕ) → Sized (ticks_of d)
unfolding Sized
ticks_sized (Some n) = tt
ticks_sized None = tt

frame_sized : (port : ℕ) (o : Option (List ℕ)) → SayBytes o → Sized (frame_of port o)
unfolding Sized SayBytes
frame_sized port None h = tt
frame_sized port (Some body) h = h

inputs_sized : (o : Option (List ℕ)) → SayBytes o → Sized (inputs_of o)
unfolding Sized SayBytes
inputs_sized None h = tt
inputs_sized (Some xs) h = by_test Sized (eqb (length xs) 64) (λ e. (eqb-true (length xs) 64 e, h)) (λ e. tt)

bad_sized : Sized bad
unfolding Sized
bad_sized = tt

pub line_sized : (s : List ℕ) → Sized (line_of s)
unfolding line_of form_of
line_sized s =
    let c : ℕ = get_or s 0 0 in
    let rest : List ℕ = drop 2 s in
    by_test Sized (ltb longest (length s)) (λ e. bad_sized)
    (λ e. by_test Sized (eqb (get_or s 1 0) 0x20)
    (λ f. by_test Sized (eqb c 0x54) (λ t. ticks_sized (decimal_of most_ticks rest))
    (λ t. by_test Sized (within 0x30 0x39 c) (λ p. frame_sized (c - 0x30) (hex_pairs rest) (pairs_bytes rest))
    (λ p. by_test Sized (eqb c 0x49) (λ i. inputs_sized (hex_pairs rest) (pairs_bytes rest)) (λ i. bad_sized))))
    (λ f. bad_sized))

-- ---- the inputs that a good agent holds are 64 bytes
held_bytes : (a : Agent) → Good a → Bytes (held_inputs a)
held_bytes a g = bytes_take image (drop inputs_at a.regs) (bytes_drop inputs_at a.regs g.bytes)

pub held_64 : (a : Agent) → Good a → length (held_inputs a) ≡ 64
held_64 a g = length-take-le image (drop inputs_at a.regs) (omega (arith, g.registers, length-drop inputs_at a.regs))

-- ---- every line leaves a good agent
ticks_good : (n : ℕ) (a : Agent) → Good a → Good (after_ticks n a)
unfolding after_ticks
ticks_good zero a g = g
ticks_good (suc n) a g = ticks_good n (tick_call a (held_inputs a)).agent (good_next a (calls.tick (held_inputs a)) g (held_bytes a g))

pub done_good : (a : Agent) (s : Step) → Good a → Sized s → Good (done a s).agent
unfolding Sized
done_good a (ticks n) g h = ticks_good n a g
done_good a (frame port body) g h = good_next a (calls.frame port body 545) g h
done_good a (inputs xs) g h = good_next a (calls.tick xs) g h.1
done_good a bad g h = g

-- ---- and sends at most 545 bytes
pub done_sent : (a : Agent) (s : Step) → Good a → Sized s → length (done a s).line ≤ least_room
unfolding Sized
done_sent a (ticks n) g h = omega arith
done_sent a (frame port body) g h = sent_most a (calls.frame port body least_room) g h
done_sent a (inputs xs) g h = omega arith
done_sent a bad g h = omega arith

-- ---- and the module of a script is good to begin with
pub module_good : Good script_module
module_good = good_start 1 2 0 (fixed_by doors_limit) (limit_fits doors_limit refl)

-- ---- so the answers are those of the calls
pub tick_accepted : (a : Agent) (xs : List ℕ) → Good a → length xs ≡ 64 → (tick_call a xs).answer ≡ 0
unfolding tick_call
tick_accepted a xs g e = rw (g.sound_is, eq-eqb (length xs) 64 e)

pub never_19 : (a : Agent) (s : Step) → Good a → (done a s).answer ≡ 19 → ⊥
never_19 a (ticks n) g e = omega arith
never_19 a (frame port body) g e = never_unsound a (calls.frame port body 545) g e
never_19 a (inputs xs) g e = omega arith
never_19 a bad g e = omega arith
