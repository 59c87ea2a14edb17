use Rattle.arcs.proofs.Search.{none-common, least-common}
use Rattle.arcs.proofs.lowest_partner.Goals as goal

pub returns-then-partners-eq0 : goal.returns-then-partners-eq0
returns-then-partners-eq0 c = none-common _ _ _ c.common-partners.ensures c.if-partners-eq0.true

pub returns : goal.returns
returns c = least-common _ _ _ c.common-partners.ensures c.if-partners-eq0.false _ c.lowest.ensures
