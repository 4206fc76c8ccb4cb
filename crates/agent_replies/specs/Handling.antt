-- The registers that a reply shows. Assumes nothing.
use Rattle.frame_kinds.specs.declared.kinds.Frame.{Frame}
use Rattle.frame_kinds.specs.declared.kinds.Frame.TheVariants.{Sync, SafeRead, SafeWrite, PlainRead, PlainWrite, SafeResponse, PlainSyncResponse, PlainResponse, TidAssignment, SidAssignment, SidAssignment4, Acknowledgement, Invariants}
use Rattle.agent_replies.specs.declared.sending.Part.{Part}

-- DATL of them, starting at ADD, with STAT at 19h
abbrev pub part_of : Frame → Part
part_of (SafeResponse dest src cyc seq «com» datl add stat) = record { add = add; datl = datl; stat = stat }
part_of (Sync src cyc) = record { add = 0; datl = 0; stat = 0 }
part_of (SafeRead dest src cyc seq datl add) = record { add = 0; datl = 0; stat = 0 }
part_of (SafeWrite dest src cyc seq datl add) = record { add = 0; datl = 0; stat = 0 }
part_of (PlainRead src datl add) = record { add = 0; datl = 0; stat = 0 }
part_of (PlainWrite src datl add) = record { add = 0; datl = 0; stat = 0 }
part_of (PlainSyncResponse src datl add stat) = record { add = 0; datl = 0; stat = 0 }
part_of (PlainResponse src «com» datl add) = record { add = 0; datl = 0; stat = 0 }
part_of (TidAssignment src iid tid) = record { add = 0; datl = 0; stat = 0 }
part_of (SidAssignment src sec mac sid) = record { add = 0; datl = 0; stat = 0 }
part_of (SidAssignment4 src sec mac sid sid2 src2) = record { add = 0; datl = 0; stat = 0 }
part_of (Acknowledgement src dst sec mac) = record { add = 0; datl = 0; stat = 0 }
part_of (Invariants dest src cyc seq config logic) = record { add = 0; datl = 0; stat = 0 }
