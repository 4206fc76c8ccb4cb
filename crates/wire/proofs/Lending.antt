-- The array at its last value, where nothing more than a `&` of it is lent on. For every `Logic`; assumes nothing.
use mathlib.Core.Path.{◌≡◌}
use mathlib.Core.List.{List, [], ◌∷◌}
use mathlib.Core.Option.{none}
use Prim.Native.Nat.{ℕ}
use seplogic.Ra.Ura.{Ura}
use base.Logic.{ent}
use base.Fml.{fres}
use types.Logic.{Logic, sem}
use types.Kit.{‵, ◌$◌, ◌∵◌, !, qed, fpack, done}
use denote.Array.{Array}
use denote.Builtin.{u8}
use denote.Follow.{such_by, follows_by}
use denote.Ref.{MutBor}
use denote.RattleType.{RattleType}
use Rattle.std.specs.Prelude.{⊤}
use Rattle.wire.specs.Body.{Leaves}

-- the type of the array
abbrev pub Bytes : RattleType
Bytes = Array u8 272

pub leaves : {M : Type 1} {𝓤 : Ura M} (𝓛 : Logic 𝓤) (s : MutBor (List ℕ)) (xs ys : List ℕ) → xs ≡ ys
    → ent 𝓤 (sem 𝓛 (fres s.ghost_name (Bytes.coded.code xs))) (sem 𝓛 (Leaves s ys))
unfolding such_by follows_by
leaves 𝓛 s xs ys e =
    let Ends : Type 0 = (z : (List ℕ → List ℕ) × List ℕ) × ((w : List ℕ) → ⊤) × (z.1 ≡ ys) in
    qed 𝓛 (‵ (fres s.ghost_name (Bytes.coded.code xs)) ∷ []) ∵
    fpack ! Ends (λ z. follows_by (List ℕ) (List ℕ) Bytes.coded.code Bytes.coded.code s.ghost_name none z.0.0 z.0.1) ((λ w. xs, xs), (λ w. tt), e) $ done !
