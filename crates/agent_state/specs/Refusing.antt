-- The refusals of a call by their numbers, those of the line and of a frame among them, and a call's answer: 0, or the number of
-- its refusal. Assumes nothing.
use Rattle.std.specs.Prelude.{ℕ, Result, Ok, Err}
use Rattle.rules.specs.Answers.{accepted, body_length, stuffing, unstuffed_length, fcs, reserved, elsewhere, typ, form, crc, source, addressee, cycle, repeat, out_of_order, too_many, outside_rules, not_allowed, eight_others, unsound, reply_room, host_input, outside_window}
use Rattle.wire.specs.declared.LineFault.{LineFault}
use Rattle.wire.specs.declared.LineFault.TheVariants as line
use Rattle.frame_forms.specs.declared.FrameFault.{FrameFault}
use Rattle.frame_forms.specs.declared.FrameFault.TheVariants as frame
use Rattle.agent_state.specs.declared.refusal.Refusal.{Refusal}
use Rattle.agent_state.specs.declared.refusal.Refusal.TheVariants.{BodyLength, Stuffing, UnstuffedLength, Fcs, Reserved, Elsewhere, Typ, Form, Crc, Source, Addressee, Cycle, Repeat, OutOfOrder, TooMany, OutsideRules, NotAllowed, EightOthers, Unsound, ReplyRoom, HostInput, OutsideWindow}

abbrev pub number_of : Refusal → ℕ
number_of BodyLength = body_length
number_of Stuffing = stuffing
number_of UnstuffedLength = unstuffed_length
number_of Fcs = fcs
number_of Reserved = reserved
number_of Elsewhere = elsewhere
number_of Typ = typ
number_of Form = form
number_of Crc = crc
number_of Source = source
number_of Addressee = addressee
number_of Cycle = cycle
number_of Repeat = repeat
number_of OutOfOrder = out_of_order
number_of TooMany = too_many
number_of OutsideRules = outside_rules
number_of NotAllowed = not_allowed
number_of EightOthers = eight_others
number_of Unsound = unsound
number_of ReplyRoom = reply_room
number_of HostInput = host_input
number_of OutsideWindow = outside_window

abbrev pub answer_of : {A : Type 0} → Result A Refusal → ℕ
answer_of (Ok x) = accepted
answer_of (Err e) = number_of e

-- a fault of the line, and one of a frame, as a refusal
abbrev pub of_line : LineFault → Refusal
of_line line.Length = BodyLength
of_line line.Stuffing = Stuffing
of_line line.Size = UnstuffedLength
of_line line.Check = Fcs
of_line line.Reserved = Reserved

abbrev pub of_frame : FrameFault → Refusal
of_frame frame.Kind = Typ
of_frame frame.Form = Form
of_frame frame.Check = Crc
