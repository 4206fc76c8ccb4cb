-- A frame built, and put after a text: its body without the flags, or the writer's refusal, 5 or 8. Assumes nothing.
use Rattle.std.specs.Prelude.{List, ℕ, length, Ok, Err}
use Rattle.text.specs.Putting.{hex_text}
use Rattle.laying.specs.Laying.{Laid, body_of}
use Rattle.laying.specs.declared.Unfit.TheVariants.{Reserved, Form, Room}
use Rattle.wire.specs.declared.LineFault.TheVariants as line
use Rattle.frame_forms.specs.declared.FrameFault.TheVariants as form
use Rattle.frame_kinds.specs.Kinds.{app_of}
use Rattle.frame_writing.specs.Writing.{written_of}
use Rattle.frame_kinds.specs.declared.kinds.Frame as kinds
use Rattle.frame_reading.specs.declared.BodyFault.TheVariants.{Line, Frame}
use Rattle.frame_words.specs.Texts.{Text, put}
use Rattle.frame_words.specs.declared.table.Kind.{Kind}
use Rattle.frame_fields.specs.Numbers.{frame_of, address_of, datl_of}
use Rattle.frame_text.specs.Said.{refused_reading}

-- 600 bytes are room for any frame, so the last case never comes
abbrev pub by_laid : Text → Laid → List ℕ → Text
by_laid t (Ok n) body = put t (hex_text body)
by_laid t (Err Reserved) body = refused_reading t (Line line.Reserved)
by_laid t (Err Form) body = refused_reading t (Frame form.Form)
by_laid t (Err Room) body = t

unfoldable pub frame_built : Text → ℕ → kinds.Frame → List ℕ → Text
frame_built t a f xs = by_laid t (written_of 600 a f xs) (body_of a (app_of f xs))

unfoldable pub built_text : Text → Kind → List ℕ → List ℕ → Text
built_text t k vs xs = frame_built t (address_of k vs) (frame_of k vs (datl_of (length xs))) xs
