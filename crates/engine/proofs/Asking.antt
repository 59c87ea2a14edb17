-- What is prepared of a table, and what is asked of `none_supported` over it. Assumes nothing.
use mathlib.Core.Path.{◌≡◌, refl, ap, ◌∙◌}
use mathlib.Core.Bool.{Bool, true, false, not}
use mathlib.Core.List.{List}
use Prim.Native.Nat.{ℕ, ◌+◌, ◌*◌, ◌-◌, ◌≤◌, ◌<◌}
use native.Mathlib.Omega.{arith}
use lib.IntN.{ℤ}
use lib.Dec.{eqb}
use lib.ListN.{length, get_or, take, drop, length-take, length-drop}
use lib.Seq.{get_or-take, get_or-drop, length-take-le}
use Rattle.std.specs.Prelude.{if◌then◌else◌}
use Rattle.definitions.specs.declared.Case.{Case}
use Rattle.definitions.specs.Rules.{rules_of, edge_places}
use Rattle.definitions.specs.Case.{scope_count}
use Rattle.definitions.specs.Valid.{working_weight}
use Rattle.definitions.specs.Consistency.{all_refuted}
use Rattle.definitions.specs.Moves.{active_values}
use Rattle.calls.specs.Calls.{is_raised}
use Rattle.theory.proofs.Validity.{Handed}
use Rattle.tables.proofs.Answered.{limits-known}
use Rattle.tables.specs.Scopes.{BestOf}
use Rattle.arcs.specs.Active.{marks_call}
use Rattle.arcs.proofs.Prepared.{marked-sets, marked-rows-long, marked-rows}
use Rattle.arcs.specs.Tried.{tried_answer}
use Rattle.arcs.specs.declared.Tried.TheVariants.{Unsupported, Supported}
use Rattle.arcs.proofs.Refutation.{Bytes, tried-active}
use Rattle.choice.specs.Choice.{says_unsupported}
use Rattle.engine.specs.Search.{Prepared, Allowing}

-- ---- what `active_marks` leaves

pub marks-prepared : {c : Case} {w best : List ℤ} → Handed (rules_of c) (working_weight (rules_of c)) c w → BestOf c w best → (sets rows : List ℕ)
    → c.n ≤ length sets
    → 16 * c.m ≤ length rows → Prepared c w (marks_call (rules_of c) c w best sets rows).sets (marks_call (rules_of c) c w best sets rows).rows
marks-prepared h b sets rows room wide = record {
  handed = h;
  acts-are = marked-sets b h sets rows room wide;
  rows_long = marked-rows-long b h sets rows room wide;
  rows_are = marked-rows b h sets rows room wide;
}

-- ---- what is asked

not-not : (b : Bool) → b ≡ not (not b)
not-not true = refl
not-not false = refl

-- the answer says it
refuted-says : (b : Bool) → says_unsupported (if b then Unsupported else Supported) ≡ b
refuted-says true = refl
refuted-says false = refl

-- the bytes of the edges
abbrev pub edges_of : Case → List ℕ → List ℕ
edges_of c raised = take ((c.n + c.m) - c.n) (drop c.n raised)

module _ (c : Case) (w : List ℤ) {acts rows : List ℕ} (raised sets : List ℕ) (R : ℕ → Bool) (p : Prepared c w acts rows) (a : Allowing c w R sets)
    (edges-same : (e : ℕ) → e < c.m → is_raised raised (c.n + e) ≡ R (c.n + e))
    (lowers : length c.lower ≡ edge_places) (uppers : length c.upper ≡ edge_places) (long : scope_count c ≤ length raised) (room : c.n ≤ length sets) where
  edges-length : length (edges_of c raised) ≡ c.m
  edges-length = simp (length-take, length-drop) (omega arith)

  bytes : Bytes c w R rows (edges_of c raised) (take c.n sets)
  bytes =
      let few : c.m ≤ edge_places = (limits-known p.handed).edges_placed in record {
        lowers = omega arith;
        uppers = omega arith;
        room = p.rows_long;
        edges = record {
          count = edges-length;
          raised = λ e g. ap (λ (b : ℕ). eqb b 0) (get_or-take ((c.n + c.m) - c.n) (drop c.n raised) e 0 (omega arith) ∙ get_or-drop c.n raised e 0)
              ∙ not-not (eqb (get_or raised (c.n + e) 0) 0) ∙ ap not (edges-same e g);
          partners = λ e q g l t. p.rows_are e q g l;
        };
        sets-length = length-take-le c.n sets room;
        sets = λ j g. get_or-take c.n sets j 0 g ∙ a j g;
      }

  pub asked-says : (i : ℕ) → i < c.n
      → says_unsupported (tried_answer c.lower c.upper rows (edges_of c raised) (take c.n sets) i (get_or acts i 0))
      ≡ all_refuted c w R i (active_values c w i)
  asked-says i g =
      ap (λ (values : ℕ). says_unsupported (tried_answer c.lower c.upper rows (edges_of c raised) (take c.n sets) i values)) (p.acts-are i g)
      ∙ ap says_unsupported (tried-active c w p.handed R rows (edges_of c raised) (take c.n sets) bytes i g)
      ∙ refuted-says (all_refuted c w R i (active_values c w i))
