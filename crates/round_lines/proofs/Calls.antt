-- What the calls answer and leave, by what was asked. Assumes nothing.
use Rattle.std.specs.Prelude.{Result, Ok, Err, is_err, ⊤}
use mathlib.Core.Path.{◌≡◌, refl, sym, ap, ap₂, ◌∙◌}
use mathlib.Core.Bool.{Bool, true, false, not, ◌||◌}
use mathlib.Core.List.Memᴰ
use mathlib.Core.List.{List, [], ◌∷◌, ◌++◌, map, append-nil, append_assoc}
use Prim.Native.Nat.{ℕ, ◌+◌, ◌*◌, ◌^◌, ◌≤◌, ◌<◌}
use native.Mathlib.Omega.{arith}
use lib.IntN.{ℤ}
use lib.Dec.{T, ltb, lit<}
use lib.ListN.{length, length-append, length-map}
use borrow.Author.Tests.{lt-ltb, le-ltb}
use Rattle.integers.specs.Words.{any, below, joined}
use Rattle.integers.specs.Tests.{is_false, false-is}
use Rattle.integers.specs.Lists.{◌∈◌, any_append, map-append, map-map, joined-append, in-those, in-below}
use Rattle.definitions.specs.declared.Case.{Case}
use Rattle.definitions.specs.declared.Line.{Line}
use Rattle.definitions.specs.declared.Refusal.{Refusal}
use Rattle.definitions.specs.declared.Refusal.TheVariants.{OutsideLimits, WrongLength, OutOfRange}
use Rattle.definitions.specs.Rules.{rules_of, coherent}
use Rattle.definitions.specs.Refusals.{◌when◌, first_refusal}
use Rattle.definitions.specs.Case.{scope_count}
use Rattle.definitions.specs.Valid.{within_limits}
use Rattle.definitions.specs.Lines.{line_length, line_text, line_too_wide, overwritten}
use Rattle.definitions.specs.RoundLines.{raise_line, lines_of_void, void_text}
use Rattle.calls.specs.Calls.{WriteCall, LineCall, is_raised}
use Rattle.lines.specs.AtWidth.{width_out, line_out, write_line_at}
use Rattle.lines.proofs.Answers.{write-wide, write_done}
use Rattle.lines.proofs.AtRules.{width-in}
use Rattle.tables.proofs.Order.{limited}
use Rattle.round_lines.specs.declared.Entry.{Entry}
use Rattle.round_lines.specs.declared.Entry.TheVariants.{Press, Void}
use Rattle.round_lines.specs.Press.{raised_below, lines_of_press, entry_lines, first_line, last_lines, raise_texts, line_texts, put_text}
use Rattle.round_lines.specs.Press.{text_written, put_call, lines_call, checked_call, write_all_call, write_void_call}
use Rattle.round_lines.proofs.Texts.{small-narrow, raised-few}

-- ---- a first line, raise lines, and what comes last

pub entry-lines : (entry : Entry) (i : ℕ) (xs : List ℕ) → entry_lines entry i xs ≡ (first_line entry i (length xs) ∷ map raise_line xs) ++ last_lines entry
entry-lines (Press a bound) i xs = refl
entry-lines Void i xs = sym (append-nil (lines_of_void i xs))

pub last-few : (entry : Entry) → length (last_lines entry) ≤ 1
last-few (Press a bound) = omega arith
last-few Void = omega arith

-- raise lines are never too wide
narrow-raises : (width : ℕ) → T (not (width_out width)) → (xs : List ℕ) → ((x : ℕ) → x ∈ xs → x < 10 ^ 4) → any (line_too_wide width) (map raise_line xs) ≡ false
narrow-raises width t [] few = refl
narrow-raises width t (x ∷ xs) few =
    rw (small-narrow width 3 x 0 t (lit< tt) (few x (Memᴰ.head refl)) (lit< tt)) (narrow-raises width t xs (λ y m. few y (Memᴰ.tail m)))

module _ (first : Line) (xs : List ℕ) (last : List Line) where
  abbrev framed : List Line
  framed = (first ∷ map raise_line xs) ++ last

  lines-count : length framed ≡ length xs + 1 + length last
  lines-count = simp (length-append, length-map) (omega arith)

  module _ (width : ℕ) where
    text-put : line_texts width framed ≡ put_text width first last xs
    text-put =
        ap (λ (t : List ℕ). line_text width first ++ t)
        (ap joined (map-append (line_text width) (map raise_line xs) last) ∙ joined-append (map (line_text width) (map raise_line xs)) (map (line_text width) last)
        ∙ ap (λ (t : List (List ℕ)). joined t ++ line_texts width last) (map-map (line_text width) raise_line xs))
        ∙ sym (append_assoc (line_text width first) (raise_texts width xs) (line_texts width last))

    wide-put : T (not (width_out width)) → ((x : ℕ) → x ∈ xs → x < 10 ^ 4)
        → any (line_too_wide width) framed ≡ (line_too_wide width first || any (line_too_wide width) last)
    wide-put t few =
        ap (λ (b : Bool). line_too_wide width first || b)
        (any_append (line_too_wide width) (map raise_line xs) last ∙ rw (narrow-raises width t xs few))

pub entry-count : (entry : Entry) (i : ℕ) (xs : List ℕ) → length (entry_lines entry i xs) ≡ length xs + 1 + length (last_lines entry)
entry-count entry i xs = ap length (entry-lines entry i xs) ∙ lines-count (first_line entry i (length xs)) xs (last_lines entry)

pub line-in : (width : ℕ) (l : Line) → T (not (width_out width)) → line_too_wide width l ≡ false → T (not (line_out width l))
line-in width l t e = rw (is_false (width_out width) t, e) tt

-- ---- a line tried on a text that is long enough
module _ (width : ℕ) (text : List ℕ) (l : Line) (t : T (not (width_out width))) (room : line_length width ≤ length text) where
  abbrev tried : Result ⊤ Refusal
  tried = (write_line_at width text l).answer

  long : ltb (length text) (15 + width) ≡ false
  long = le-ltb (length text) (15 + width) room

  tried-narrow : line_too_wide width l ≡ false → tried ≡ Ok tt
  tried-narrow e = ap (λ (c : LineCall). c.answer) (write_done width text l long (rw (is_false (width_out width) t, e)))

  tried-wide : line_too_wide width l ≡ true → tried ≡ Err OutOfRange
  tried-wide e = ap (λ (c : LineCall). c.answer) (write-wide width text l long (rw (is_false (width_out width) t, e)))

  pub tried-told : is_err tried ≡ line_too_wide width l
  tried-told = go (line_too_wide width l) refl
    where
      go : (b : Bool) → line_too_wide width l ≡ b → is_err tried ≡ b
      go true e = ap is_err (tried-wide e)
      go false e = ap is_err (tried-narrow e)

-- ---- the calls, by what was asked

abbrev pub Refuses : WriteCall → Refusal → List ℕ → Type 0
Refuses call x out = Err x ≡ call.answer × (out ≡ call.out)

-- of any lines
module _ (c : Case) (out : List ℕ) (i : ℕ) (ls : List Line) where
  abbrev width : ℕ
  width = (rules_of c).amount_width

  pub checked-short : length out < line_length width * length ls → Refuses (checked_call (rules_of c) c out i ls) WrongLength out
  checked-short h = let e = lt-ltb (length out) (line_length width * length ls) h in (rw e, rw e)

  pub checked-none : line_length width * length ls ≤ length out → c.n ≤ i → Refuses (checked_call (rules_of c) c out i ls) OutOfRange out
  checked-none room h =
      let d = le-ltb (length out) (line_length width * length ls) room in
      let e = le-ltb i c.n h in
      (rw (d, e), rw (d, e))

  module _ (raised : List ℕ) where
    pub lines-outside : within_limits (rules_of c) c.n c.d c.m ≡ false → Refuses (lines_call (rules_of c) c out i ls raised) OutsideLimits out
    unfolding lines_call
    lines-outside e = (rw e, rw e)

    module _ (e : within_limits (rules_of c) c.n c.d c.m ≡ true) where
      pub lines-short : length raised < scope_count c → Refuses (lines_call (rules_of c) c out i ls raised) WrongLength out
      unfolding lines_call
      lines-short h = let d = lt-ltb (length raised) (scope_count c) h in (rw (e, d), rw (e, d))

      pub lines-checked : scope_count c ≤ length raised → checked_call (rules_of c) c out i ls ≡ lines_call (rules_of c) c out i ls raised
      unfolding lines_call
      lines-checked h = rw (e, le-ltb (length raised) (scope_count c) h)

      -- the lines are written where they fit
      lines-written : scope_count c ≤ length raised → line_length width * length ls ≤ length out → i < c.n → any (line_too_wide width) ls ≡ false
          → lines_call (rules_of c) c out i ls raised
          ≡ record { answer = Ok (length (line_texts width ls)); out = overwritten (line_texts width ls) out }
      unfolding lines_call
      lines-written room long h narrow =
          rw (e, le-ltb (length raised) (scope_count c) room, le-ltb (length out) (line_length width * length ls) long, lt-ltb i c.n h, narrow)

-- of the scopes that are raised
module _ (c : Case) (out raised : List ℕ) (i : ℕ) where
  abbrev width_here : ℕ
  width_here = (rules_of c).amount_width

  abbrev raised_here : List ℕ
  raised_here = raised_below raised (scope_count c)

  raised-small : scope_count c ≤ 10 ^ 4 → (x : ℕ) → x ∈ raised_here → x < 10 ^ 4
  raised-small few x m = let h : x < scope_count c = in-below (scope_count c) (in-those (is_raised raised) (below (scope_count c)) m).0 in omega arith

  pub checked-put : (entry : Entry) → line_length width_here * length (entry_lines entry i raised_here) ≤ length out → i < c.n
      → T (not (width_out width_here)) → scope_count c ≤ 10 ^ 4
      → put_call width_here (first_line entry i (length raised_here)) (last_lines entry) raised_here out
      ≡ checked_call (rules_of c) c out i (entry_lines entry i raised_here)
  checked-put entry room h t few =
      let first = first_line entry i (length raised_here) in
      let last = last_lines entry in
      ap₂ (λ (t : List ℕ) (b : Bool). text_written t out (first_refusal (OutOfRange when b ∷ [])))
      (sym (ap (line_texts width_here) (entry-lines entry i raised_here) ∙ text-put first raised_here last width_here))
      (sym (ap (any (line_too_wide width_here)) (entry-lines entry i raised_here) ∙ wide-put first raised_here last width_here t (raised-small few)))
      ∙ sym (rw (le-ltb (length out) (line_length width_here * length (entry_lines entry i raised_here)) room, lt-ltb i c.n h))

  -- the lines of a press are written where they fit
  pub press-written : (a bound : ℤ) → within_limits (rules_of c) c.n c.d c.m ≡ true → scope_count c ≤ length raised
      → line_length width_here * (length raised_here + 2) ≤ length out → i < c.n
      → any (line_too_wide width_here) (lines_of_press i raised_here a bound) ≡ false
      → let text = line_texts width_here (lines_of_press i raised_here a bound) in
      write_all_call (rules_of c) c out raised i a bound ≡ record { answer = Ok (length text); out = overwritten text out }
  unfolding write_all_call
  press-written a bound e room fits h narrow =
      let n : length (lines_of_press i raised_here a bound) ≡ length raised_here + 2 = entry-count (Press a bound) i raised_here ∙ omega arith in
      lines-written c out i (lines_of_press i raised_here a bound) raised e room (rw n fits) h narrow

  -- and those of a void line where there is room
  pub void-written : within_limits (rules_of c) c.n c.d c.m ≡ true → scope_count c ≤ length raised
      → line_length width_here * (length raised_here + 1) ≤ length out → i < c.n
      → let text = joined (void_text (rules_of c) i raised_here) in
      write_void_call (rules_of c) c out raised i ≡ record { answer = Ok (length text); out = overwritten text out }
  unfolding write_void_call
  void-written e room fits h =
      let l = limited c e in
      let rules = coherent c.rulebook in
      let t = false-is (width_out width_here) (width-in (rules_of c) rules refl) in
      let few : scope_count c < 10 ^ 4 = omega (arith, rules.scopes-few, l.variables, l.edges) in
      let n : length (lines_of_void i raised_here) ≡ length raised_here + 1 = entry-count Void i raised_here ∙ omega arith in
      lines-written c out i (lines_of_void i raised_here) raised e room (rw n fits) h
      (rw (small-narrow width_here 5 i (length raised_here) t (lit< tt) (omega arith) (omega (arith, raised-few raised (scope_count c))))
      (narrow-raises width_here t raised_here (raised-small (omega arith))))
