-- 64 inputs. Assumes nothing.
use Rattle.text.specs.Hex.{hex_pairs}
use Rattle.text.proofs.HexRead.{bytes_got}
use Rattle.script_lines.proofs.FormLaws.{inputs_64}
use Rattle.script_lines.proofs.forms.read_inputs.Goals as goal

pub returns-in-Ok-eq64 : goal.returns-in-Ok-eq64
returns-in-Ok-eq64 c =
    let o = hex_pairs c.args.rest.now in
    inputs_64 o _ _ (bytes_got o _ _ _ c.in-Ok-eq64.ensures.0 c.in-Ok-eq64.ensures.1) c.in-Ok-eq64.field-0-test
