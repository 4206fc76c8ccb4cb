-- Laws of what is printed: how long each part is, and each part put. Assumes nothing.
use mathlib.Core.Path.{◌≡◌, refl, sym, ap, ap₂, ◌∙◌}
use mathlib.Core.Bool.{Bool, true, false}
use mathlib.Core.List.{List, [], ◌∷◌, ◌++◌, append-nil, append_assoc}
use Prim.Native.Nat.{ℕ, ◌+◌, ◌≤◌}
use native.Mathlib.Omega.{arith}
use borrow.Author.Tests.{eq-eqb, ne_eqb}
use lib.Dec.{eqb}
use lib.ListN.{length, length-append}
use Rattle.base.proofs.Choosing.{by_test}
use Rattle.text.specs.BadLines.{bad_text}
use Rattle.text.specs.Decimal.{decimal_text}
use Rattle.text.specs.Putting.{hex_digits, hex_text}
use Rattle.text.specs.Texts.{with_piece}
use Rattle.text.proofs.BadLineLaws.{bad_length}
use Rattle.text.proofs.DecimalLaws.{decimal_length}
use Rattle.text.proofs.PuttingLaws.{digits_two, text_length}
use Rattle.text.proofs.TextLaws.{piece_fits}
use Rattle.rules.specs.Replies.{Outcome}
use Rattle.rules.specs.State.{running}
use Rattle.rules.specs.declared.Agent.{Agent}
use Rattle.script_text.specs.declared.View.{View}
use Rattle.script_text.specs.declared.View.TheVariants.{Script, Trace}
use Rattle.script_text.specs.Printing.{header_of, space, line_end, answer_text, mode_text, state_text, reply_text, trace_text, view_text, fields_text, printed}

-- ---- how long each part is
pub answer_length : (n answer : ℕ) → length (answer_text n answer) ≤ 41
unfolding answer_text
answer_length n answer =
    omega (arith, decimal_length n, decimal_length answer, length-append (decimal_text n ++ space) (decimal_text answer), length-append (decimal_text n) space)

pub mode_length : (a : Agent) → length (mode_text a) ≡ 3
mode_length a = by_test (λ (l : List ℕ). length l ≡ 3) (running a) (λ e. refl) (λ e. refl)

pub state_length : (a : Agent) → length (state_text a) ≡ 5
unfolding state_text
state_length a = omega (arith, length-append (mode_text a) (hex_digits a.cycle), mode_length a, digits_two a.cycle)

pub reply_length : (line : List ℕ) → length line ≤ 545 → length (reply_text line) ≤ 1090
reply_length line h =
    by_test (λ (l : List ℕ). length l ≤ 1090) (eqb (length line) 0) (λ e. omega arith) (λ e. omega (arith, text_length line))

pub regs_length : (regs : List ℕ) → length regs ≤ 256 → length (hex_text regs) ≤ 512
regs_length regs h = omega (arith, text_length regs)

pub trace_length : (line regs : List ℕ) → length line ≤ 545 → length regs ≤ 256 → length (trace_text line regs) ≤ 1604
unfolding trace_text
trace_length line regs h k =
    omega (
      arith,
      reply_length line h,
      regs_length regs k,
      length-append ((space ++ reply_text line) ++ space) (hex_text regs),
      length-append (space ++ reply_text line) space,
      length-append space (reply_text line),
    )

pub view_length : (view : View) (o : Outcome) → length o.line ≤ 545 → length o.agent.regs ≤ 256 → length (view_text view o) ≤ 1604
view_length Script o h k = omega arith
view_length Trace o h k = trace_length o.line o.agent.regs h k

pub header_length : (view : View) → length (header_of view) ≤ 64
header_length Script = omega arith
header_length Trace = omega arith

-- ---- the parts that are put
fits : (room : ℕ) (text piece new : List ℕ) → length text + length piece ≤ room → new ≡ with_piece room text piece → new ≡ text ++ piece
fits room text piece new h e = e ∙ sym (piece_fits room text piece h)

pub state_put : (room : ℕ) (text : List ℕ) (a : Agent) (t₁ new : List ℕ) → length text + 5 ≤ room
    → t₁ ≡ with_piece room text (mode_text a) → new ≡ with_piece room t₁ (hex_text (a.cycle ∷ [])) → new ≡ text ++ state_text a
unfolding state_text hex_text
state_put room text a t₁ new h p q =
    let l = mode_length a in
    let m = digits_two a.cycle in
    let e : t₁ ≡ text ++ mode_text a = fits room text (mode_text a) t₁ (omega arith) p in
    let f : hex_digits a.cycle ++ [] ≡ hex_digits a.cycle = append-nil (hex_digits a.cycle) in
    let k : length t₁ ≡ length text + length (mode_text a) = ap length e ∙ length-append text (mode_text a) in
    fits room t₁ (hex_digits a.cycle ++ []) new (omega (arith, ap length f)) q
    ∙ ap₂ (λ (s u : List ℕ). s ++ u) e f
    ∙ append_assoc text (mode_text a) (hex_digits a.cycle)

pub trace_put : (room : ℕ) (text line regs t₁ t₂ t₃ new : List ℕ) → length line ≤ 545 → length regs ≤ 256 → length text + 1605 ≤ room
    → t₁ ≡ with_piece room text space → t₂ ≡ with_piece room t₁ (reply_text line) → t₃ ≡ with_piece room t₂ space
    → new ≡ with_piece room t₃ (hex_text regs) → new ≡ text ++ trace_text line regs
unfolding trace_text
trace_put room text line regs t₁ t₂ t₃ new h k j p q s t =
    let l = reply_length line h in
    let m = regs_length regs k in
    let a : t₁ ≡ text ++ space = fits room text space t₁ (omega arith) p in
    let a' : length t₁ ≡ length text + 1 = ap length a ∙ length-append text space in
    let b : t₂ ≡ t₁ ++ reply_text line = fits room t₁ (reply_text line) t₂ (omega arith) q in
    let b' : length t₂ ≡ length t₁ + length (reply_text line) = ap length b ∙ length-append t₁ (reply_text line) in
    let c : t₃ ≡ t₂ ++ space = fits room t₂ space t₃ (omega arith) s in
    let c' : length t₃ ≡ length t₂ + 1 = ap length c ∙ length-append t₂ space in
    let d : new ≡ t₃ ++ hex_text regs = fits room t₃ (hex_text regs) new (omega arith) t in
    let two : t₂ ≡ text ++ (space ++ reply_text line) = b ∙ ap (λ (x : List ℕ). x ++ reply_text line) a ∙ append_assoc text space (reply_text line) in
    let three : t₃ ≡ text ++ ((space ++ reply_text line) ++ space) = c ∙ ap (λ (x : List ℕ). x ++ space) two ∙ append_assoc text (space ++ reply_text line) space in
    d ∙ ap (λ (x : List ℕ). x ++ hex_text regs) three ∙ append_assoc text ((space ++ reply_text line) ++ space) (hex_text regs)

pub mode_run : (a : Agent) → a.mode ≡ 1 → 0x20 ∷ 0x52 ∷ 0x20 ∷ [] ≡ mode_text a
mode_run a e = rw (eq-eqb a.mode 1 e)

pub mode_fallback : (a : Agent) → (a.mode ≡ 1 → ⊥) → 0x20 ∷ 0x46 ∷ 0x20 ∷ [] ≡ mode_text a
mode_fallback a e = rw (ne_eqb a.mode 1 e)

pub reply_none : (line : List ℕ) → length line ≡ 0 → 0x2D ∷ [] ≡ reply_text line
reply_none line e = rw e

pub reply_some : (line : List ℕ) → (length line ≡ 0 → ⊥) → hex_text line ≡ reply_text line
reply_some line e = rw (ne_eqb (length line) 0 e)

-- ---- a whole line
module _ (room n x : ℕ) (text t₁ : List ℕ) where
  pub answer_room : length text + 1700 ≤ room → t₁ ≡ text ++ answer_text n x → length t₁ + 5 ≤ room
  answer_room h p = omega (arith, answer_length n x, ap length p, length-append text (answer_text n x))

  module _ (a : Agent) (t₂ : List ℕ) where
    state_end : t₁ ≡ text ++ answer_text n x → t₂ ≡ t₁ ++ state_text a → length t₂ ≤ length text + 46
    state_end p q =
        omega (arith, answer_length n x, ap length p, length-append text (answer_text n x), state_length a, ap length q, length-append t₁ (state_text a))

    pub state_room : length text + 1700 ≤ room → t₁ ≡ text ++ answer_text n x → t₂ ≡ t₁ ++ state_text a → length t₂ + 1605 ≤ room
    state_room h p q = let l = state_end p q in omega arith

    pub view_room : (v t₃ : List ℕ) → length text + 1700 ≤ room → t₁ ≡ text ++ answer_text n x → t₂ ≡ t₁ ++ state_text a → t₃ ≡ t₂ ++ v → length v ≤ 1604
        → length t₃ + 1 ≤ room
    view_room v t₃ h p q s m = let l = state_end p q in omega (arith, ap length s, length-append t₂ v)

pub fields_put : (view : View) (n : ℕ) (o : Outcome) (text t₁ t₂ t₃ new : List ℕ)
    → t₁ ≡ text ++ answer_text n o.answer → t₂ ≡ t₁ ++ state_text o.agent → t₃ ≡ t₂ ++ view_text view o → new ≡ t₃ ++ line_end
    → new ≡ text ++ fields_text view n o
unfolding fields_text
fields_put view n o text t₁ t₂ t₃ new p q s t =
    let a : List ℕ = answer_text n o.answer in
    let b : List ℕ = state_text o.agent in
    let v : List ℕ = view_text view o in
    let two : t₂ ≡ text ++ (a ++ b) = q ∙ ap (λ (x : List ℕ). x ++ b) p ∙ append_assoc text a b in
    let three : t₃ ≡ text ++ ((a ++ b) ++ v) = s ∙ ap (λ (x : List ℕ). x ++ v) two ∙ append_assoc text (a ++ b) v in
    t ∙ ap (λ (x : List ℕ). x ++ line_end) three ∙ append_assoc text ((a ++ b) ++ v) line_end

module _ (view : View) (n : ℕ) (b : Bool) (o : Outcome) (text new : List ℕ) where
  pub line_bad : (room : ℕ) → length text + 1700 ≤ room → b ≡ true → new ≡ with_piece room text (bad_text n) → new ≡ text ++ printed view n b o
  unfolding printed
  line_bad room h e p = rw e (fits room text (bad_text n) new (omega (arith, bad_length n)) p)

  pub line_fields : b ≡ false → new ≡ text ++ fields_text view n o → new ≡ text ++ printed view n b o
  unfolding printed
  line_fields e w = rw e w

-- ---- the text of a line is short
pub fields_length : (view : View) (n : ℕ) (o : Outcome) → length (view_text view o) ≤ 1604 → length (fields_text view n o) ≤ 1700
unfolding fields_text
fields_length view n o m =
    let two : List ℕ = answer_text n o.answer ++ state_text o.agent in
    omega (
      arith,
      m,
      answer_length n o.answer,
      state_length o.agent,
      length-append (answer_text n o.answer) (state_text o.agent),
      length-append two (view_text view o),
      length-append (two ++ view_text view o) line_end,
    )

pub fields_printed : (view : View) (n : ℕ) (b : Bool) (o : Outcome) → length (fields_text view n o) ≤ 1700 → b ≡ false → length (printed view n b o) ≤ 1700
unfolding printed
fields_printed view n b o m e = rw e m

pub bad_printed : (view : View) (n : ℕ) (b : Bool) (o : Outcome) → b ≡ true → length (printed view n b o) ≤ 1700
unfolding printed
bad_printed view n b o e = rw e (omega (arith, bad_length n))

pub printed_length : (view : View) (n : ℕ) (b : Bool) (o : Outcome) → length o.line ≤ 545 → length o.agent.regs ≤ 256 → length (printed view n b o) ≤ 1700
unfolding printed
printed_length view n b o h k =
    by_test (λ (l : List ℕ). length l ≤ 1700) b (λ e. omega (arith, bad_length n)) (λ e. fields_length view n o (view_length view o h k))
