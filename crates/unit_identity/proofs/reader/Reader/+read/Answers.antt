use Rattle.std.proofs.Common.{ap, sym, ◌∙◌}
use Rattle.unit_identity.specs.Reading.{with_rest}
use Rattle.unit_identity.proofs.ReadBackLemmas.{last-read, more-read}
use Rattle.unit_identity.proofs.reader.Reader.+read.Goals as goal

pub read_fills-returns : goal.read_fills-returns
read_fills-returns t c =
    last-read _ _ _ _ _ _ _ _ _ _ _ _ _ _ _ c.if-fuel-eq0.false c.take_name-hole.ensures.name
    c.take_name-hole.ensures.rest c.skip.ensures.next c.skip.ensures.rest c.if-not-skip.false
    (ap (λ o. with_rest o c.read_ident.new.self.rest.now) (sym c.in-Some.is)
    ∙ c.in_ok-ident.ensures) c.in_ok-hole.ensures c.in_ok-push.ensures.items c.skip-2.ensures.next
    c.skip-2.ensures.rest c.if-skip.false c.skip-closed.ensures.next c.skip-closed.ensures.rest

pub read_fills-returns-then-skip : goal.read_fills-returns-then-skip
read_fills-returns-then-skip t c =
    more-read _ _ _ _ _ _ _ _ _ _ _ _ _ _ _ _ c.if-fuel-eq0.false c.take_name-hole.ensures.name
    c.take_name-hole.ensures.rest c.skip.ensures.next c.skip.ensures.rest c.if-not-skip.false
    (ap (λ o. with_rest o c.read_ident.new.self.rest.now) (sym c.in-Some.is)
    ∙ c.in_ok-ident.ensures) c.in_ok-hole.ensures c.in_ok-push.ensures.items c.skip-2.ensures.next
    c.skip-2.ensures.rest c.if-skip.true c.in_ok-more.ensures
