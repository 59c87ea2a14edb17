use Rattle.std.specs.Prelude.{Option, ℕ}
use mathlib.Core.Path.{◌≡◌, subst}
use native.Mathlib.Omega.{arith}
use Rattle.tables.proofs.Answered.{limits-known}
use Rattle.engine.specs.Search.{FoundIs}
use Rattle.engine.proofs.Raising.{ones-raised}
use Rattle.engine.proofs.Runs.{limit-settled}
use Rattle.engine.proofs.Pairs.{next-settled}
use Rattle.engine.proofs.limit_next.Goals as goal
use Rattle.engine.proofs.limit_next.Goals.{After-search-found}

found-is : (c : After-search-found) → {r : Option ℕ} → c.search-found.result ≡ r → FoundIs c.args.case c.args.table.now c.search-found.new.raised r
found-is c e =
    let a = c.args in
    subst (FoundIs a.case a.table.now c.search-found.new.raised) e
    (c.search-found.ensures a.table.now c.requires.prepared.0 (ones-raised a.case (omega (arith, (limits-known c.requires.handed.0).scopes-placed))))

pub limit_press-requires : goal.limit_press-requires
limit_press-requires c =
    let (which, kept) = found-is (goal.at.limit_press-requires c).After-search-found c.in-Some.is in (
      record {
        handed = c.requires.handed.0;
        greatest-held = c.requires.handed.1;
        no-pair = c.requires.table_value;
        which = which;
        room = omega (arith, (limits-known c.requires.handed.0).scopes-placed, c.search-found.auto.raised);
        kept = kept;
      },
      c.requires.case_in_bounds,
    )

pub returns-in-None : goal.returns-in-None
returns-in-None c =
    limit-settled c.requires.handed.0 c.requires.case_in_bounds
    (next-settled c.args.case c.args.table.now c.requires.table_value (found-is (goal.at.returns-in-None c).After-search-found c.in-None.is))
