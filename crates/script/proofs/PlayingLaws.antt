-- Laws of a script's lines: what was made of the module, the player after one, and its text. Assumes nothing.
use Rattle.std.proofs.Common.{◌≡◌, ℕ, ◌≤◌, Bool, Bor, List, [], length, refl, sym, ap, ◌∙◌}
use Rattle.std.specs.Prelude.{Option, Result, Ok, Err, not}
use Rattle.std.specs.Option.{is_some}
use Rattle.std.proofs.Math.Bool.{not-not}
use Rattle.std.specs.Result.{result_unwrap_or}
use Rattle.agent_state.specs.Refusing.{answer_of}
use Rattle.agent_state.specs.declared.refusal.Refusal.{Refusal}
use Rattle.rules.specs.declared.Agent.{Agent}
use Rattle.rules.specs.Replies.{Outcome}
use Rattle.script_lines.specs.Forms.{step_in}
use Rattle.script_lines.specs.Doing.{done, told}
use Rattle.script_text.specs.Printing.{printed}
use Rattle.script.specs.Playing.{number_of, after, shown}
use Rattle.script_lines.specs.declared.forms.Form.{Form}
use Rattle.script.specs.declared.playing.Player.{Player}
use Rattle.script_text.specs.declared.View.{View}
use Rattle.script_lines.proofs.FormLaws.{step_bad}

-- the answer, the module and what was sent, as the code puts them together; `none` is an empty part
pub made_told : (r : Result (Bor (List ℕ)) Refusal) (a : Agent) (none : Bor (List ℕ)) (n : ℕ) (sent : Bor (List ℕ)) → none.now ≡ []
    → n ≡ answer_of r → sent ≡ result_unwrap_or r none → ◌≡◌ {A = Outcome} record { answer = n; agent = a; line = sent.now } (told r a)
made_told (Ok s) a none n sent z p q = rw (p, q) refl
made_told (Err e) a none n sent z p q = rw (p, q, z) refl

module _ (p : Player) (view : View) (form : Option Form) (bytes : List ℕ) (o : Outcome) (n : ℕ) (b : Bool)
    (e : o ≡ done p.agent (step_in form bytes)) (m : n ≡ number_of p) (f : is_some form ≡ not b) where
  pub player_after : ◌≡◌ {A = Player} record { agent = o.agent; lines = n } (after p (step_in form bytes))
  player_after = let q : o.agent ≡ (done p.agent (step_in form bytes)).agent = ap (λ (x : Outcome). x.agent) e in rw (q, m)

  pub text_shown : printed view n b o ≡ shown view p (step_in form bytes)
  text_shown = rw (e, m, sym (not-not b) ∙ ap not (sym f) ∙ step_bad form bytes)

  pub shown_length : length (printed view n b o) ≤ 1700 → length (shown view p (step_in form bytes)) ≤ 1700
  shown_length l = rw text_shown at l
