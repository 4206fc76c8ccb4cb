-- A buffer that is filled by reads, one behind the other. Assumes nothing.
use Rattle.std.proofs.Common.{◌≡◌, ℕ, ◌+◌, ◌≤◌, List, ◌++◌, length, take, sym, ap, ◌∙◌}
use Rattle.std.proofs.lemmas.List.{take-append-le, length-take-le}
use Rattle.std.proofs.Math.Seq.{take-append-add}
use Rattle.std.specs.Io.KnownBytes.{Consumes}
use Rattle.std.specs.declared.option.Option.{Option}
use Rattle.console.proofs.KnownLaws.{loses_more}
use borrow.Rule.Slice.PartMut.{put_mid, post_of}

-- n bytes more, put behind those that were read
pub fills_more : (a b c : Option (List ℕ)) (buf piece : List ℕ) (done n k : ℕ) → done ≤ length buf → n ≤ length piece
    → Consumes a b (take done buf) → Consumes b c (take n piece) → Consumes a c (take (done + n) (put_mid done k buf piece))
fills_more a b c buf piece done n k h l p q =
    let e : length (take done buf) ≡ done = length-take-le done buf h in
    let t : take (done + n) (put_mid done k buf piece) ≡ take done buf ++ take n piece =
    ap (λ (m : ℕ). take (m + n) (put_mid done k buf piece)) (sym e)
    ∙ take-append-add (take done buf) (piece ++ post_of done k buf) n
    ∙ ap (λ (u : List ℕ). take done buf ++ u) (take-append-le n piece (post_of done k buf) l)
    in
    rw t (loses_more a b c (take done buf) (take n piece) p q)
