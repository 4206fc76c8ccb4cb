-- A list of calls with real bodies from power-up: the SID is assigned, the release is ordered, the module reaches RUN, and
-- an output is written. Assumes nothing.
use Rattle.std.specs.Prelude.{List, [], ◌∷◌}
use Rattle.frame_kinds.specs.declared.kinds.Frame.TheVariants.{SafeWrite}
use Rattle.rules.specs.Calls.{Call}
use Rattle.rules.specs.Registers.{out_rep, outputs_at}
use Rattle.bench.specs.BusCalls.{own_sid, own_tid, concentrator, comes_on, assigns, syncs, seq_of}

-- the two writes come on port 2, all else on port 1
abbrev pub opening : List Call
opening =
    assigns
    ∷ syncs 0x10
    ∷ comes_on 2 own_tid (SafeWrite own_sid concentrator 0x10 (seq_of 0x10 0) 1 out_rep) (0x55 ∷ [])
    ∷ syncs 0x11
    ∷ comes_on 2 own_tid (SafeWrite own_sid concentrator 0x11 (seq_of 0x11 0) 1 outputs_at) (0xAB ∷ [])
    ∷ []
