-- The kinds of frames by their words, and the fields of each in the order of a line. Assumes nothing.
use Rattle.std.specs.Prelude.{Bool, true, false, List, [], ◌∷◌, ℕ}
use Rattle.std.specs.Borrow.{Bor}
use Prim.Native.String.{String}
use Rattle.frame_words.specs.Chars.{chars}
use Rattle.frame_words.specs.declared.table.Kind.{Kind}
use Rattle.frame_words.specs.declared.table.Kind.TheVariants.{Sync, Read, Write, PlainRead, PlainWrite, Response, PlainSyncResponse, PlainResponse, Tid, Sid, Sid4, Ack, Invariants}

-- all kinds, in the order of the grammar
unfoldable pub kinds : List Kind
kinds = Sync ∷ Read ∷ Write ∷ PlainRead ∷ PlainWrite ∷ Response ∷ PlainSyncResponse ∷ PlainResponse ∷ Tid ∷ Sid ∷ Sid4 ∷ Ack ∷ Invariants ∷ []

abbrev pub kind_word : Kind → List ℕ
kind_word Sync = chars "sync"
kind_word Read = chars "read"
kind_word Write = chars "write"
kind_word PlainRead = chars "plain-read"
kind_word PlainWrite = chars "plain-write"
kind_word Response = chars "response"
kind_word PlainSyncResponse = chars "plain-sync-response"
kind_word PlainResponse = chars "plain-response"
kind_word Tid = chars "tid"
kind_word Sid = chars "sid"
kind_word Sid4 = chars "sid4"
kind_word Ack = chars "ack"
kind_word Invariants = chars "invariants"

-- a field: its name with the '=', and how many hex digits it has
abbrev pub Field : Type 0
Field = List ℕ × ℕ

abbrev field : String → ℕ → Field
field name digits = (chars name, digits)

-- the fields of a kind except its data
abbrev pub fields_of : Kind → List Field
fields_of Sync = field "src=" 6 ∷ field "cyc=" 2 ∷ []
fields_of Read = field "to=" 2 ∷ field "dest=" 6 ∷ field "src=" 6 ∷ field "cyc=" 2 ∷ field "seq=" 2 ∷ field "len=" 2 ∷ field "at=" 2 ∷ []
fields_of Write = field "to=" 2 ∷ field "dest=" 6 ∷ field "src=" 6 ∷ field "cyc=" 2 ∷ field "seq=" 2 ∷ field "at=" 2 ∷ []
fields_of PlainRead = field "to=" 2 ∷ field "src=" 2 ∷ field "len=" 2 ∷ field "at=" 2 ∷ []
fields_of PlainWrite = field "to=" 2 ∷ field "src=" 2 ∷ field "at=" 2 ∷ []
fields_of Response = field "to=" 2 ∷ field "dest=" 6 ∷ field "src=" 6 ∷ field "cyc=" 2 ∷ field "seq=" 2 ∷ field "com=" 2 ∷ field "at=" 2 ∷ field "stat=" 2 ∷ []
fields_of PlainSyncResponse = field "to=" 2 ∷ field "src=" 2 ∷ field "at=" 2 ∷ field "stat=" 2 ∷ []
fields_of PlainResponse = field "to=" 2 ∷ field "src=" 2 ∷ field "com=" 2 ∷ field "at=" 2 ∷ []
fields_of Tid = field "to=" 2 ∷ field "src=" 2 ∷ field "iid=" 16 ∷ field "tid=" 2 ∷ []
fields_of Sid = field "to=" 2 ∷ field "src=" 6 ∷ field "sec=" 8 ∷ field "mac=" 16 ∷ field "sid=" 6 ∷ []
fields_of Sid4 = field "to=" 2 ∷ field "src=" 6 ∷ field "sec=" 8 ∷ field "mac=" 16 ∷ field "sid=" 6 ∷ field "sid2=" 6 ∷ field "src2=" 6 ∷ []
fields_of Ack = field "to=" 2 ∷ field "src=" 6 ∷ field "dst=" 6 ∷ field "sec=" 8 ∷ field "mac=" 16 ∷ []
fields_of Invariants = field "to=" 2 ∷ field "dest=" 6 ∷ field "src=" 6 ∷ field "cyc=" 2 ∷ field "seq=" 2 ∷ field "config=" 4 ∷ field "logic=" 4 ∷ []

-- whether the kind has data=, which is always the last field
abbrev pub has_data : Kind → Bool
has_data Sync = false
has_data Read = false
has_data Write = true
has_data PlainRead = false
has_data PlainWrite = true
has_data Response = true
has_data PlainSyncResponse = true
has_data PlainResponse = true
has_data Tid = false
has_data Sid = false
has_data Sid4 = false
has_data Ack = false
has_data Invariants = false

-- ---- how the code holds fields: each name behind a reference
abbrev pub fields_in : List (Bor (List ℕ) × ℕ) → List Field
fields_in [] = []
fields_in (f ∷ fs) = (f.0.now, f.1) ∷ fields_in fs
