-- A refusal is no acceptance. Assumes nothing.
use Rattle.std.proofs.Common.{◌≡◌, false, sym, refl, ap, ◌∙◌}
use Rattle.base.proofs.Choosing.{never}
use Rattle.rules.specs.Answers.{is_accepted}
use Rattle.agent_state.specs.Refusing.{number_of}
use Rattle.agent_state.specs.declared.refusal.Refusal.{Refusal}
use Rattle.agent_state.specs.declared.refusal.Refusal.TheVariants.{BodyLength, Stuffing, UnstuffedLength, Fcs, Reserved, Elsewhere, Typ, Form, Crc, Source, Addressee, Cycle, Repeat, OutOfOrder, TooMany, OutsideRules, NotAllowed, EightOthers, Unsound, ReplyRoom, HostInput, OutsideWindow}

pub not_accepted : (e : Refusal) → is_accepted (number_of e) ≡ false
not_accepted BodyLength = refl
not_accepted Stuffing = refl
not_accepted UnstuffedLength = refl
not_accepted Fcs = refl
not_accepted Reserved = refl
not_accepted Elsewhere = refl
not_accepted Typ = refl
not_accepted Form = refl
not_accepted Crc = refl
not_accepted Source = refl
not_accepted Addressee = refl
not_accepted Cycle = refl
not_accepted Repeat = refl
not_accepted OutOfOrder = refl
not_accepted TooMany = refl
not_accepted OutsideRules = refl
not_accepted NotAllowed = refl
not_accepted EightOthers = refl
not_accepted Unsound = refl
not_accepted ReplyRoom = refl
not_accepted HostInput = refl
not_accepted OutsideWindow = refl

pub no_zero : (e : Refusal) → number_of e ≡ 0 → ⊥
no_zero e h = never (sym (not_accepted e) ∙ ap is_accepted h)
