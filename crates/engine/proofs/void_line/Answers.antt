use Rattle.std.specs.Prelude.{Result, ℕ}
use Rattle.definitions.specs.declared.Refusal.{Refusal}
use mathlib.Core.Path.{◌≡◌, sym, ◌∙◌}
use Rattle.definitions.specs.Rules.{rules_of}
use Rattle.round_lines.specs.Press.{write_void_call}
use Rattle.engine.proofs.Rounds.{void-unrefused, void-made}
use Rattle.engine.proofs.void_line.Goals as goal
use Rattle.engine.proofs.void_line.Goals.{After-write_void}

-- what was written
wrote : (c : After-write_void) {q : Result ℕ Refusal} → c.write_void.result ≡ q → let a = c.args in
    q ≡ (write_void_call (rules_of a.case) a.case a.out.now a.raised.now a.variable).answer
wrote c e = sym e ∙ c.write_void.ensures.value

pub returns-in_err-bytes : goal.returns-in_err-bytes
returns-in_err-bytes c w best f least =
    absurd (void-unrefused f least c.args.out.now c.requires (wrote (goal.at.returns-in_err-bytes c).After-write_void c.in_err-bytes.was))

pub returns : goal.returns
returns c w best f least =
    void-made f least c.args.out.now c.requires (wrote (goal.at.returns c).After-write_void c.in_ok-bytes.was) c.write_void.ensures.out_after
