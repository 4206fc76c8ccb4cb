-- What a call that brings a safe request to a SIL2 module means: that request, or nothing. Assumes nothing.
use mathlib.Core.List.{List}
use mathlib.Core.Path.{refl, sym, subst}
use Prim.Native.Nat.{ℕ}
use lib.Dec.{eqb}
use Rattle.base.proofs.Choosing.{by_test}
use Rattle.rules.specs.Calls.{Call, frame}
use Rattle.demand3.specs.Events.{of_request, event_of, Request}
use Rattle.demand3.specs.Numbers.{is_accepted, outside_rules}
use Rattle.demand3.specs.Sharper.{Asks, to_read, to_write, Brings}
use Rattle.demand3.proofs.Ignored.{MeansAsked}

of_request_lem : (r : Request) (n : ℕ) → MeansAsked r.src r.seq (of_request r n)
of_request_lem r n =
    by_test (MeansAsked r.src r.seq) (is_accepted n) (λ e. (refl, refl))
    (λ e. by_test (MeansAsked r.src r.seq) (eqb n outside_rules) (λ e. tt) (λ e. tt))

of_body : (port : ℕ) (body : List ℕ) (room dest src cyc seq : ℕ) → Asks body dest src cyc seq → (n : ℕ) → MeansAsked src seq (event_of (frame port body room) n)
unfolding event_of
of_body port body room dest src cyc seq (to_read addr datl add app e) n = rw e (of_request_lem _ n)
of_body port body room dest src cyc seq (to_write addr datl add app e) n = rw e (of_request_lem _ n)

pub means_asked : (call : Call) (n src seq : ℕ) → Brings call src seq → MeansAsked src seq (event_of call n)
means_asked call n src seq b =
    subst (λ (c : Call). MeansAsked src seq (event_of c n)) (sym b.called) (of_body b.port b.body b.room b.dest src b.cyc seq b.asks n)
