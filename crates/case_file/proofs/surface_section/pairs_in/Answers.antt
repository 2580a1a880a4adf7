use Rattle.std.proofs.Common.{◌/◌, [], ◌∷◌, ◌++◌, length, ap, sym, ◌∙◌, arith}
use Rattle.std.proofs.lemmas.List.{length-take}
use Rattle.std.proofs.lemmas.List.FromFn.{length-map-range_with_len, map-range_with_len_more}
use Rattle.case_file.specs.Sections.{pair_in}
use Rattle.case_file.proofs.Pairs.{pair_read}
use Rattle.case_file.proofs.surface_section.pairs_in.Goals as goal

pub push-requires : goal.push-requires
push-requires c =
    let so_far = ap length c.loop-low.invariant ∙ length-map-range_with_len (pair_in c.args.bytes.now) 0 c.loop-low.low-index in
    let few = length-take c.min.result c.as_chunks.result.0.now in
    (omega arith, omega arith)

pub loop-low-preserved : goal.loop-low-preserved
loop-low-preserved c =
    let bytes = c.args.bytes.now in
    let pairs = c.as_chunks.result.0.now in
    let k = c.loop-low.low-index in
    let n = c.min.result in
    let few = length-take n pairs in
    let read = pair_read bytes pairs (length bytes / 2) n k c.as_chunks.ensures.front (omega arith) (omega (arith, c.as_chunks.ensures.front_len)) in
    c.push.ensures.items ∙ (λ i. c.loop-low.invariant i ++ read i ∷ []) ∙ sym (map-range_with_len_more (pair_in bytes) 0 k k (omega arith))
