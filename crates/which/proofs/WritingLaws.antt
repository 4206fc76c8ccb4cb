-- Laws of what the writer takes: what is printed for the input of which a script was read, or a beginning of it. Assumes nothing.
use mathlib.Core.Bool.{true, false}
use mathlib.Core.List.{List, [], ◌++◌}
use mathlib.Core.Path.{◌≡◌, refl}
use Prim.Native.Nat.{ℕ}
use borrow.Author.Tests.{lt-ltb, ltb-true}
use lib.Dec.{ltb}
use lib.ListN.{length}
use Rattle.std.specs.Io.KnownBytes.{Appends}
use Rattle.std.specs.declared.option.Option.{Option}
use Rattle.base.proofs.Choosing.{never}
use Rattle.console.specs.Handing.{AppendsFront, Printed, PrintedFront}
use Rattle.console.proofs.KnownLaws.{keeps_same}
use Rattle.console.proofs.HandingLaws.{front_none}
use Rattle.which.specs.Printing.{printed}
use Rattle.which.specs.Reading.{room, Tells, ScriptRead, ScriptLost}

-- reading failed: nothing was written
pub read_lost : (known left a : Option (List ℕ)) → ScriptLost known left → PrintedFront printed known left a a
read_lost known left a x = record {
  read = x.lost;
  ended = false;
  lost = x.read;
  last = λ e. never e;
  took = λ rest e. front_none a a (printed (x.lost ++ rest)) (keeps_same a);
}

-- it was written, or begun
module _ (known left : Option (List ℕ)) (script : List ℕ) (x : ScriptRead known left script) (page : List ℕ) (t : Tells script page) (a b : Option (List ℕ)) where
  text_is : (rest : List ℕ) → (ltb (length script) room ≡ true → rest ≡ []) → page ≡ printed (script ++ rest)
  text_is rest e = t (script ++ rest) (record { rest = rest; is = refl; ended = λ h. e (lt-ltb (length script) room h) })

  pub text_written : Appends a b page → Printed printed known left a b
  text_written p = record {
    read = script;
    ended = ltb (length script) room;
    lost = x.read;
    last = λ e. x.full (ltb-true (length script) room e);
    took = λ rest e. rw (← text_is rest e) p;
  }

  pub text_begun : AppendsFront a b page → PrintedFront printed known left a b
  text_begun p = record {
    read = script;
    ended = ltb (length script) room;
    lost = x.read;
    last = λ e. x.full (ltb-true (length script) room e);
    took = λ rest e. rw (← text_is rest e) p;
  }
