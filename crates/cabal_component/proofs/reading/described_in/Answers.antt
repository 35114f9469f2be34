use Rattle.std.specs.HashSet.{contains}
use Rattle.std.specs.Str.{bytes_eq}
use Rattle.cabal_component.specs.Reading.{block_components}
use Rattle.cabal_component.proofs.RefusedLemmas.{block_next}
use Rattle.cabal_component.proofs.reading.described_in.Goals as goal

pub loop-rest-preserved-in_ok-append : goal.loop-rest-preserved-in_ok-append
loop-rest-preserved-in_ok-append c =
    block_next (block_components c.args.file.now c.args.owner.now (contains bytes_eq c.args.own.now))
    c.loop-rest.rest.now c.line-item.result c.deeper_len.result c.loop-rest.refused c.in_ok-found.found.refused c.sooner-refused.result _
    c.in_ok-found.found.components c.loop-rest.components c.append.new.self _ c.in-len1-up.len_at_least c.line-item.is
    c.if-line-eq0.true c.deeper_len.ensures.value c.in_ok-found.ensures.refused c.in_ok-found.ensures.components
    c.sooner-refused.ensures c.in_ok-append.ensures c.loop-rest.invariant
