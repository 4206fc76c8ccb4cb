-- A safe request that passes the tests has the number due or one at most three past it. Assumes nothing.
use mathlib.Core.Bool.{true}
use mathlib.Core.Path.{◌≡◌, refl, ◌∙◌, subst}
use mathlib.Core.List.{List}
use Prim.Native.Nat.{ℕ, ◌+◌, ◌%◌, ◌<◌}
use native.Mathlib.Omega.{arith}
use borrow.Author.Tests.{eqb-true}
use lib.ListN.{length}
use Rattle.base.proofs.Choosing.{and_right}
use Rattle.frame_writing.specs.Writing.{fields_fit, fits}
use Rattle.frame_kinds.specs.declared.kinds.Frame.TheVariants.{SafeWrite}
use Rattle.rules.specs.Requests.{Ask, writes, distance}
use Rattle.rules.specs.Sources.{sid_of}
use Rattle.rules.specs.declared.Agent.{Agent}
use Rattle.rules.proofs.Cases.{Passes}
use Rattle.demand3.specs.Events.{Request}
use Rattle.demand3.specs.Numbers.{first_seq}
use Rattle.demand3.proofs.Effects.{Told, InReach, LaidWrite}
use Rattle.demand3.proofs.FrameEvents.{Carries}
use Rattle.demand3.proofs.SameNumbers.{same_first_seq}
use Rattle.demand3.proofs.Views.{view_of}

abbrev pub asking : (dest src cyc seq : ℕ) → Ask → Request
asking dest src cyc seq ask = record { dest = dest; src = src; cyc = cyc; seq = seq; ask = ask }

-- the number at its distance from the first
number_at : (seq cyc : ℕ) → seq < 256 → seq ≡ (first_seq cyc + distance seq cyc) % 256
unfolding distance
number_at seq cyc b = omega (arith, same_first_seq cyc)

-- a distance is a byte, so no number of a cycle comes round again, whatever the limit
distance_byte : (seq cyc : ℕ) → distance seq cyc < 256
unfolding distance
distance_byte seq cyc = omega arith

-- it is in reach, at its distance
pub in_reach : {a : Agent} {dest src cyc seq : ℕ} → Passes a dest src cyc seq → (ask : Ask) → seq < 256 → InReach (view_of a) (asking dest src cyc seq ask) (distance seq cyc)
unfolding sid_of
in_reach {cyc = cyc} {seq = seq} p ask small =
    let q = p.addressed in
    let d : ℕ = distance seq cyc in
    record {
      last = q.last;
      somebody = λ e. q.somebody (q.last ∙ e);
      sid = q.sid;
      heard = q.heard;
      cyc = q.same;
      low = p.low;
      high = p.high;
      seq = subst (λ (c : ℕ). seq ≡ (first_seq c + d) % 256) q.same (number_at seq cyc small);
      byte = distance_byte seq cyc;
    }

-- ---- a write

-- it has as many data bytes as it says
data_length : (address dest src cyc seq datl add n : ℕ) → fits address (SafeWrite dest src cyc seq datl add) n ≡ true → n ≡ datl
unfolding fits
data_length address dest src cyc seq datl add n e =
    eqb-true n datl (and_right (fields_fit address (SafeWrite dest src cyc seq datl add)) _ e)

pub is_laid : {call : Told} {dest src cyc seq datl add : ℕ} {xs : List ℕ} → Carries call (SafeWrite dest src cyc seq datl add) xs
    → LaidWrite call.call (asking dest src cyc seq (writes add xs)) add xs
is_laid {dest = dest} {src = src} {cyc = cyc} {seq = seq} {datl = datl} {add = add} {xs = xs} c = record {
  port = c.port;
  body = c.body;
  room = c.room;
  address = c.address;
  datl = datl;
  called = c.called;
  laid = c.laid;
  length_is = data_length c.address dest src cyc seq datl add (length xs) c.fit;
  ask = refl;
}
