-- The theorem that covers the table of bench cases. Assumes nothing.
use mathlib.Core.List.{List, [], ◌∷◌, ◌++◌}
use mathlib.Core.Path.{◌≡◌, refl, sym, ap, ◌∙◌}
use Prim.Native.Nat.{ℕ, ◌≤◌}
use lib.ListN.{length}
use Rattle.crc.specs.Crc.{top_bit, crc_bit, crc_bits, crc_byte, crc_from, crc_of}
use Rattle.wire.proofs.BodyLaws.{body_fits, unstuffed_wrong}
use Rattle.std.specs.Prelude.{Option, None}
use Rattle.wire.specs.Body.{ReadBody, body_answer, unstuffed_body, answer_to_body}
use Rattle.stuffing.specs.Stuffing.{stuff_byte, stuff, unstuff}
use Rattle.bench.specs.Cases.{Bench, p1, p2, p3, p4, p5, p6, p7, p8, p9, p10, p11, p12, p13, p14, Says'}
use Rattle.bench.proofs.PowerUpTicks.{first_cycle}
use Rattle.bench.proofs.RunCases.{silence_19, commands_49, wraps, last_output_lem, long_reads, sixty_four}
use Rattle.bench.proofs.Stuffed.{wrong_31, wrong_last}

-- a body whose stuffed part means nothing is 2
two : (a : ℕ) (s : List ℕ) → 7 ≤ length (a ∷ s) → length (a ∷ s) ≤ 543 → unstuff s ≡ None → (answer_to_body (a ∷ s)).0 ≡ 2
two a s g h e =
    ap (λ (b : ReadBody). (body_answer b).0)
    (sym (body_fits (a ∷ s) g h) ∙ ap (λ (o : Option (List ℕ)). unstuffed_body a o) e ∙ sym (unstuffed_wrong a))

pub bench : (p : Bench) → Says' p
unfolding crc_of crc_from crc_byte crc_bits crc_bit top_bit stuff stuff_byte
bench p1 = refl
bench p2 = refl
bench p3 = refl
bench p4 = refl
bench p5 = λ a xs ys g h. two a (xs ++ (0x7D ∷ 0x31 ∷ ys)) g h (wrong_31 xs ys)
bench p6 = λ a xs g h. two a (xs ++ (0x7D ∷ [])) g h (wrong_last xs)
bench p7 = refl
bench p8 = first_cycle
bench p9 = silence_19
bench p10 = commands_49
bench p11 = wraps
bench p12 = last_output_lem
bench p13 = long_reads
bench p14 = sixty_four
