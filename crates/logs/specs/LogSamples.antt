-- Samples of the plain replay of a log with links that leave and join (document 02, change 5), in tables as those of Borders. Assumes nothing.
use Rattle.std.specs.Prelude.{refl, Bool, true, false, List, [], ◌∷◌, ◌++◌, map, ℕ, ◌+◌, ℤ, pos, take, replicate}
use Rattle.integers.specs.Words.{minus}
use Rattle.definitions.specs.Rules.{standard}
use Rattle.definitions.specs.Refusals.{number_of}
use Rattle.definitions.specs.Lines.{line, line_text}
use Rattle.definitions.specs.Samples.{Input, given, clash, single, zeros}
use Rattle.definitions.specs.Borders.{◌is◌, Hold, l}
use Rattle.definitions.specs.BarredBorders.{B, locked, press_lines, void_lines}
use Rattle.definitions.specs.LengthBorders.{carrying, C, small, crowd}
use Rattle.logs.specs.LeaveSamples.{ToldCase, paired, Told, told}
use Rattle.logs.specs.JoinSamples.{nearly_full}
use Rattle.logs.specs.Logs.{LogState, fresh_log, step_log, after_log, log_answers, log_end, keeps_log_rules}
use Rattle.logs.specs.Logs.{begins_stretch, one_stretch, at_stretch, some_link}

-- ---- lines, and what is told of a log

abbrev Log : Type 0
Log = List (List ℕ)

-- a line with an amount of either sign; one whose first column is negative; a leave, a join, a bound line
abbrev z : ℕ → ℕ → ℕ → ℕ → ℤ → List ℕ
z kind a b c amount = line_text 12 (line kind (pos a) (pos b) (pos c) amount)

abbrev below0 : ℕ → Log
below0 kind = line_text 12 (line kind (minus 1) (pos 0) (pos 0) (pos 0)) ∷ []

abbrev leave : ℕ → Log
leave j = l 7 j 0 0 0 ∷ []

abbrev join : ℕ → Log
join p = l 8 p 0 0 0 ∷ []

abbrev bound : ℤ → Log
bound amount = z 4 0 0 0 amount ∷ []

abbrev begun : Input → LogState
begun i = fresh_log i.case i.weights

-- each line's number, and the end's
abbrev Numbers : Type 0
Numbers = List ℕ × ℕ

abbrev numbers : Input → Log → Numbers
numbers i ts = (map number_of (log_answers standard (begun i) ts), number_of (log_end (after_log standard (begun i) ts)))

-- no number at any of n lines and at the end; the number of the line after them, which stands; no number but 14 at the end
abbrev taken : ℕ → Numbers
taken n = (replicate n 0, 0)

abbrev no : ℕ → ℕ → Numbers
no n number = (replicate n 0 ++ (number ∷ []), number)

abbrev cut : ℕ → Numbers
cut n = (replicate n 0, 14)

-- the rounds, the bound with which the next round is compared, the case and both tables
abbrev Left : Type 0
Left = ℕ × ℤ × Told

abbrev left : Input → Log → Left
left i ts =
    let s = (after_log standard (begun i) ts).stretch in
    (s.rounds, s.start, told (record { case = s.case; starting = s.starting; weights = s.weights }))

-- as at first
abbrev same : Input → ℤ → Left
same i start = (0, start, told (record { case = i.case; starting = i.weights; weights = i.weights }))

-- ---- cases and rounds

-- three links, D 2, and a pair of the first two, which clash; link 2 weighs y and x
abbrev tripod : ℤ → ℤ → Input
tripod y x = given 3 2 1 (0 ∷ []) (1 ∷ []) (pos 4 ∷ pos 0 ∷ pos 4 ∷ pos 0 ∷ y ∷ x ∷ minus 9 ∷ zeros 3)

-- a round that presses link 0 by 2, with a bound line, and one after link 2 has left
abbrev first : ℤ → Log
first amount = press_lines 0 (1 ∷ 3 ∷ []) 2 ++ bound amount

abbrev second : ℕ → ℤ → Log
second a amount = press_lines 0 (1 ∷ 2 ∷ []) a ++ bound amount

-- what is left of the tripod without link 2: starting weights, and working weights after the link was pressed by so much
abbrev pairing : ℤ → ToldCase
pairing carry = paired 2 2 (0 ∷ []) (1 ∷ []) carry

abbrev s2 : List ℤ
s2 = pos 4 ∷ pos 0 ∷ pos 4 ∷ pos 0 ∷ minus 9 ∷ zeros 3

abbrev w2 : ℤ → ℤ → ℤ → List ℤ
w2 y x p = y ∷ pos 0 ∷ pos 4 ∷ x ∷ p ∷ zeros 3

-- ---- where these lines stand: "only between rounds"

-- link 2 joins the small case, with so many pairs
abbrev front : Log
front = l 11 2 0 0 10 ∷ l 12 1 0 2 0 ∷ l 13 1 0 0 20 ∷ l 12 2 1 2 0 ∷ l 13 2 0 0 30 ∷ []

pub stand :
    let shifted : Log = l 1 0 0 0 1 ∷ [] in
    let void : Log = void_lines 0 (1 ∷ 2 ∷ []) in
    Hold
    ( -- as the only line, before the first round, after a bound line, one after the other; a join whole
    numbers clash (leave 0) is taken 1 ∷ numbers clash (leave 1) is taken 1
    ∷ numbers (tripod (pos 5) (pos 5)) (leave 2 ++ second 1 (pos 7)) is taken 5
    ∷ numbers (tripod (pos 5) (pos 5)) (first (pos 11) ++ leave 2 ++ leave 1) is taken 6 ∷ numbers small (join 0 ++ take 1 front) is taken 2
    -- 2: after a shift, with a press held, after the press, with a void line held, after it
    ∷ numbers clash (shifted ++ leave 0) is no 1 2 ∷ numbers clash (shifted ++ join 0) is no 1 2
    ∷ numbers clash (take 1 (second 2 (pos 2)) ++ leave 0) is no 1 2 ∷ numbers clash (take 2 (second 2 (pos 2)) ++ join 0) is no 2 2
    ∷ numbers clash (take 3 (second 2 (pos 2)) ++ leave 0) is no 3 2 ∷ numbers clash (take 3 (second 2 (pos 2)) ++ join 0) is no 3 2
    ∷ numbers clash (second 2 (pos 2) ++ leave 0) is taken 5 ∷ numbers clash (second 2 (pos 2) ++ join 0) is cut 5
    ∷ numbers locked (take 1 void ++ leave 0) is no 1 2 ∷ numbers locked (take 2 void ++ join 0) is no 2 2
    ∷ numbers locked void is taken 3 ∷ numbers locked (void ++ leave 0) is no 3 2 ∷ numbers locked (void ++ join 0) is no 3 2
    ∷ numbers locked (leave 0) is taken 1
    -- 2: in a join, whatever is due otherwise
    ∷ numbers small (join 0 ++ leave 0) is no 1 2 ∷ numbers small (join 0 ++ join 0) is no 1 2 ∷ numbers small (join 0 ++ shifted) is no 1 2
    ∷ numbers small (join 0 ++ bound (pos 6)) is no 1 2 ∷ numbers small (join 0 ++ take 1 void) is no 1 2
    ∷ numbers small (join 0 ++ (l 10 2 1 1 0 ∷ [])) is no 1 2
    ∷ numbers small (join 2 ++ take 2 front ++ leave 0) is no 3 2 ∷ numbers small (join 2 ++ take 3 front ++ shifted) is no 4 2
    ∷ numbers small (join 2 ++ take 4 front ++ bound (pos 36)) is no 5 2
    -- 1, and 2 of a column that must be 0, before 3 and 5; a case line is due in a join alone
    ∷ numbers single (take 26 (l 7 0 0 0 0) ∷ []) is no 0 1 ∷ numbers small (join 0 ++ (take 26 (l 11 2 0 0 10) ∷ [])) is no 1 1
    ∷ numbers single (l 7 0 1 0 0 ∷ []) is no 0 2 ∷ numbers single (l 7 0 0 1 0 ∷ []) is no 0 2 ∷ numbers clash (l 7 9 0 0 1 ∷ []) is no 0 2
    ∷ numbers (crowd 1) (l 8 0 1 0 0 ∷ []) is no 0 2 ∷ numbers clash (l 8 9 0 1 0 ∷ []) is no 0 2 ∷ numbers clash (l 8 0 0 0 1 ∷ []) is no 0 2
    ∷ numbers clash (leave 0 ++ (l 11 1 0 0 7 ∷ [])) is no 1 2 ∷ numbers clash (l 11 2 0 0 7 ∷ []) is no 0 2
    -- 3 before 5: the last link, and a join past the limits
    ∷ numbers single (leave 0) is no 0 3 ∷ numbers single (leave 1) is no 0 3 ∷ numbers single (leave 9_999) is no 0 3
    ∷ numbers clash (leave 1 ++ leave 0) is no 1 3 ∷ numbers clash (leave 2) is no 0 5 ∷ numbers clash (below0 7) is no 0 5
    ∷ numbers (crowd 1) (join 0) is no 0 3 ∷ numbers (crowd 1) (join 49) is no 0 3 ∷ numbers (nearly_full 95) (join 2) is no 0 3
    ∷ numbers (nearly_full 95) (join 48) is no 0 3 ∷ numbers (nearly_full 48) (join 48) is no 0 5 ∷ numbers single (join 2) is no 0 5
    ∷ numbers single (join 97) is no 0 3 ∷ numbers small (below0 8) is no 0 5 ∷ numbers (crowd 1) (below0 8) is no 0 3
    -- what stands is the answer to every later line
    ∷ numbers single (leave 0 ++ bound (minus 7) ++ join 0) is (3 ∷ 3 ∷ 3 ∷ [], 3) ∷ numbers small (join 3 ++ front) is (replicate 6 5, 5)
    ∷ [])
stand = refl

-- refused, the case is unchanged
pub unchanged :
    Hold
    (left single (leave 1) is same single (minus 7) ∷ left clash (leave 2) is same clash (pos 4) ∷ left (crowd 1) (join 49) is same (crowd 1) (pos 0)
    ∷ left small (join 3) is same small (pos 6) ∷ left small (join 2 ++ take 4 front ++ leave 0) is same small (pos 6)
    ∷ [])
unchanged = refl

-- ---- a round after a leave is compared with the ceiling after it; bound lines state the ceiling with the carry

pub carried :
    let by : ℤ → ℤ → ℤ → Log → Numbers × Left = λ y x amount ts.
    let log : Log = first amount ++ leave 2 ++ ts in
    (numbers (tripod y x) log, left (tripod y x) log)
    in
    let kept : ℤ → List ℤ → Told = λ carry w. (pairing carry, s2, w) in
    let w : List ℤ = w2 (pos 2) (pos 2) (minus 7) in
    let w1 : List ℤ = w2 (pos 1) (pos 3) (minus 6) in
    Hold
    ( -- kept with a carry of 1: 7 against a fresh 8; a bound line at once, below the 12 before the leave; a round, with the carry and without it
    by (pos 6) (pos 5) (pos 12) [] is (taken 5, (1, pos 7, kept (pos 1) w))
    ∷ by (pos 6) (pos 5) (pos 12) (bound (pos 7)) is (no 5 13, (1, pos 7, kept (pos 1) w))
    ∷ by (pos 6) (pos 5) (pos 12) (second 1 (pos 6)) is (taken 9, (2, pos 6, kept (pos 1) w1))
    ∷ by (pos 6) (pos 5) (pos 12) (second 1 (pos 5)) is (no 8 12, (1, pos 7, kept (pos 1) w1))
    -- with the carry 0; a round below the ceiling after the leave that is above the one before it, −14
    ∷ by (pos 5) (pos 5) (pos 11) (second 1 (pos 5)) is (taken 9, (2, pos 5, kept (pos 0) w1))
    ∷ by (minus 20) (minus 20) (minus 14) (second 1 (pos 5)) is (taken 9, (2, pos 5, kept (pos 0) w1))
    ∷ by (minus 20) (minus 20) (minus 14) (bound (pos 6)) is (no 5 13, (1, pos 6, kept (pos 0) w))
    -- work restarts: the fresh ceiling is equal; the link has a barred value. A round from the starting weights
    ∷ by (pos 7) (pos 5) (pos 13) [] is (taken 5, (1, pos 8, kept (pos 0) s2))
    ∷ by (pos 7) (pos 5) (pos 13) (second 3 (pos 5)) is (taken 9, (2, pos 5, kept (pos 0) w1))
    ∷ by (pos 7) (pos 5) (pos 13) (bound (pos 8)) is (no 5 13, (1, pos 8, kept (pos 0) s2))
    ∷ by (pos 5) B (pos 11) [] is (taken 5, (1, pos 8, kept (pos 0) s2))
    ∷ by (pos 5) B (pos 11) (second 3 (pos 5)) is (taken 9, (2, pos 5, kept (pos 0) w1))
    -- another link leaves
    ∷ (let log : Log = first (pos 12) ++ leave 0 in (numbers (tripod (pos 6) (pos 5)) log, left (tripod (pos 6) (pos 5)) log)) is
    (taken 5, (1, pos 10, (paired 2 2 [] [] (pos 0), pos 4 ∷ pos 0 ∷ pos 6 ∷ pos 5 ∷ [], pos 4 ∷ pos 0 ∷ pos 6 ∷ pos 5 ∷ [])))
    ∷ [])
carried = refl

-- A carry at its lower limit: a weight that goes over from the pair to link 1 lowers what link 0 carries away. By 4 the carry stays at the limit,
-- by 5 it would pass it, and work restarts.
pub limit :
    let by : ℕ → Numbers × Left = λ a.
    let i : Input = carrying (minus C) clash in
    let log : Log = l 1 0 1 0 a ∷ l 1 0 1 1 a ∷ second 1 (minus 19_999_999_997) ++ leave 0 in
    (numbers i log, left i log)
    in
    Hold
    (by 4 is (taken 7, (1, minus 19_999_999_994, (paired 1 2 [] [] (minus C), pos 2 ∷ pos 0 ∷ [], pos 6 ∷ pos 5 ∷ [])))
    ∷ by 5 is (taken 7, (1, pos 2, (paired 1 2 [] [] (pos 0), pos 2 ∷ pos 0 ∷ [], pos 2 ∷ pos 0 ∷ [])))
    ∷ [])
limit = refl

-- ---- a join

abbrev line_count : ℕ → ℕ
line_count p = 1 + (p + p)

-- the small case with a third link and so many pairs
abbrev joined : ℕ → Log
joined p = join p ++ take (line_count p) front

pub joins :
    let by : Log → Numbers × Left = λ ts. (numbers small ts, left small ts) in
    let small3 : List ℕ → List ℕ → List ℕ → Told = λ lower upper w. (paired 3 1 lower upper (pos 0), map pos w, map pos w) in
    let fourth : Log = join 2 ++ (l 11 3 0 0 40 ∷ l 12 2 2 3 0 ∷ l 13 2 0 0 50 ∷ l 12 3 0 3 0 ∷ l 13 3 0 0 60 ∷ []) in
    let home : Left = (0, pos 6, (paired 2 1 (0 ∷ []) (1 ∷ []) (pos 0), map pos (1 ∷ 2 ∷ 3 ∷ []), map pos (1 ∷ 2 ∷ 3 ∷ []))) in
    Hold
    ( -- with 0, 1 and 2 pairs; one line more is due no longer
    by (joined 0) is (taken 2, (0, pos 16, small3 (0 ∷ []) (1 ∷ []) (1 ∷ 2 ∷ 10 ∷ 3 ∷ [])))
    ∷ by (joined 1) is (taken 4, (0, pos 36, small3 (0 ∷ 0 ∷ []) (1 ∷ 2 ∷ []) (1 ∷ 2 ∷ 10 ∷ 3 ∷ 20 ∷ [])))
    ∷ by (joined 2) is (taken 6, (0, pos 66, small3 (0 ∷ 0 ∷ 1 ∷ []) (1 ∷ 2 ∷ 2 ∷ []) (1 ∷ 2 ∷ 10 ∷ 3 ∷ 20 ∷ 30 ∷ [])))
    ∷ by (joined 0 ++ (l 12 1 0 2 0 ∷ [])) is (no 2 2, (0, pos 16, small3 (0 ∷ []) (1 ∷ []) (1 ∷ 2 ∷ 10 ∷ 3 ∷ [])))
    -- two joins; then leaves, back to the first case
    ∷ by (joined 1 ++ fourth) is (
      taken 10,
      (
        0,
        pos 186,
        (
          paired 4 1 (0 ∷ 0 ∷ 2 ∷ 0 ∷ []) (1 ∷ 2 ∷ 3 ∷ 3 ∷ []) (pos 0),
          map pos (1 ∷ 2 ∷ 10 ∷ 40 ∷ 3 ∷ 20 ∷ 50 ∷ 60 ∷ []),
          map pos (1 ∷ 2 ∷ 10 ∷ 40 ∷ 3 ∷ 20 ∷ 50 ∷ 60 ∷ []),
        ),
      ),
    )
    ∷ by (joined 1 ++ fourth ++ leave 2) is (taken 11, (0, pos 106, small3 (0 ∷ 0 ∷ []) (1 ∷ 2 ∷ []) (1 ∷ 2 ∷ 40 ∷ 3 ∷ 60 ∷ [])))
    ∷ by (joined 1 ++ fourth ++ leave 2 ++ leave 2) is (taken 12, home)
    ∷ by (joined 0 ++ leave 2) is (taken 3, home) ∷ by (joined 2 ++ leave 2) is (taken 7, home)
    ∷ [])
joins = refl

-- cut at every line, and refused at every line: the case is unchanged
pub cuts :
    let cut_at : ℕ → Numbers × Left = λ n. let log : Log = take n (joined 2) in (numbers small log, left small log) in
    let wrong : ℕ → List ℕ → Numbers × Left = λ n t. let log : Log = take n (joined 2) ++ (t ∷ []) in (numbers small log, left small log) in
    let at : Numbers → Numbers × Left = λ q. (q, same small (pos 6)) in
    Hold
    (cut_at 1 is at (cut 1) ∷ cut_at 2 is at (cut 2) ∷ cut_at 3 is at (cut 3) ∷ cut_at 4 is at (cut 4) ∷ cut_at 5 is at (cut 5)
    -- the link's weight: another place, another kind, its range, its only value barred
    ∷ wrong 1 (l 11 1 0 0 10) is at (no 1 5) ∷ wrong 1 (l 13 1 0 0 10) is at (no 1 2) ∷ wrong 1 (z 11 2 0 0 (minus 1_000_001)) is at (no 1 8)
    ∷ wrong 1 (l 14 2 0 0 0) is at (no 1 15) ∷ wrong 1 (l 14 2 0 0 1) is at (no 1 2)
    -- a pair's ends: another pair, the higher link not the new one, the new one as lower link, both
    ∷ wrong 2 (l 12 0 0 2 0) is at (no 2 5) ∷ wrong 2 (l 12 1 0 1 0) is at (no 2 5)
    ∷ wrong 2 (l 12 1 2 1 0) is at (no 2 5) ∷ wrong 2 (l 12 1 3 2 0) is at (no 2 5)
    ∷ wrong 2 (l 12 1 2 2 0) is at (no 2 6) ∷ wrong 2 (l 11 2 0 0 10) is at (no 2 2)
    -- a pair's weight
    ∷ wrong 3 (l 13 1 1 0 20) is at (no 3 5) ∷ wrong 3 (l 13 1 0 0 1_000_001) is at (no 3 8)
    ∷ wrong 3 (l 15 1 0 0 0) is at (no 3 15) ∷ wrong 3 (l 12 2 1 2 0) is at (no 3 2)
    -- the second pair: its lower link is the first one's
    ∷ wrong 4 (l 12 2 0 2 0) is at (no 4 7) ∷ wrong 4 (l 12 1 1 2 0) is at (no 4 5) ∷ wrong 4 (l 12 2 2 2 0) is at (no 4 6)
    ∷ wrong 5 (l 13 1 0 0 30) is at (no 5 5) ∷ wrong 5 (z 13 2 0 0 B) is at (no 5 8)
    ∷ wrong 5 (l 15 2 0 0 0) is at (no 5 15) ∷ wrong 5 [] is at (no 5 1)
    ∷ [])
cuts = refl

-- a round before a join and one after it, which is compared with the ceiling after it
pub joined-rounds :
    let by : Log → Numbers × Left = λ ts. let log : Log = second 1 (pos 3) ++ ts in (numbers clash log, left clash log) in
    let low : Log = join 0 ++ (z 11 2 0 0 (minus 7) ∷ z 11 2 1 0 (minus 8) ∷ []) in
    let third : Log =
    join 1 ++ (l 11 2 0 0 7 ∷ l 14 2 1 0 0 ∷ l 12 1 1 2 0 ∷ l 13 1 0 0 8 ∷ l 15 1 0 1 0 ∷ z 13 1 1 0 (minus 9) ∷ l 15 1 1 1 0 ∷ []) in
    let again : ℤ → Log = λ amount. press_lines 0 (1 ∷ 3 ∷ []) 1 ++ bound amount in
    let wide : List ℤ → List ℤ → Told = λ s w.
    let tail : List ℤ = pos 8 ∷ B ∷ minus 9 ∷ B ∷ [] in
    (paired 3 2 (0 ∷ 1 ∷ []) (1 ∷ 2 ∷ []) (pos 0), s ++ (minus 3 ∷ zeros 3) ++ tail, w ++ zeros 3 ++ tail)
    in
    let start : List ℤ = pos 2 ∷ pos 0 ∷ pos 2 ∷ pos 0 ∷ pos 7 ∷ B ∷ [] in
    let low3 : List ℤ → Told = λ w.
    (paired 3 2 (0 ∷ []) (1 ∷ []) (pos 0), take 4 start ++ (minus 7 ∷ minus 8 ∷ minus 3 ∷ zeros 3), w ++ zeros 3)
    in
    let once : List ℤ = pos 1 ∷ pos 0 ∷ pos 2 ∷ pos 1 ∷ minus 7 ∷ minus 8 ∷ minus 2 ∷ [] in
    Hold
    ( -- higher than before the join: 18 for 3
    by (third ++ again (pos 17)) is (taken 16, (2, pos 17, wide start (zeros 2 ++ (pos 2 ∷ pos 2 ∷ pos 7 ∷ B ∷ minus 1 ∷ []))))
    ∷ by (third ++ bound (pos 18)) is (no 12 13, (1, pos 18, wide start (pos 1 ∷ pos 0 ∷ pos 2 ∷ pos 1 ∷ pos 7 ∷ B ∷ minus 2 ∷ [])))
    ∷ by (third ++ again (pos 2)) is (no 15 12, (1, pos 18, wide start (zeros 2 ++ (pos 2 ∷ pos 2 ∷ pos 7 ∷ B ∷ minus 1 ∷ []))))
    -- lower: −4
    ∷ by (low ++ bound (minus 4)) is (no 7 13, (1, minus 4, low3 once))
    ∷ by (low ++ again (minus 5)) is (taken 11, (2, minus 5, low3 (zeros 2 ++ (pos 2 ∷ pos 2 ∷ minus 7 ∷ minus 8 ∷ minus 1 ∷ []))))
    ∷ [])
joined-rounds = refl

-- ---- stretches

-- each line by whether it begins one
abbrev beginning : LogState → Log → List Bool
beginning s [] = []
beginning s (t ∷ ts) = begins_stretch standard s t ∷ beginning (step_log standard s t) ts

pub stretches :
    let by : Input → Log → List Bool = λ i ts. beginning (begun i) ts in
    let never : ℕ → List Bool = λ n. replicate n false in
    let one : Input → Log → Bool = λ i ts. one_stretch standard (begun i) ts in
    let at : Input → Log → Bool = λ i ts. at_stretch standard (begun i) ts in
    Hold
    ( -- a leave, a join's last line; no round, no refused line and nothing after it
    by clash (leave 0) is (true ∷ []) ∷ by (tripod (pos 5) (pos 5)) (first (pos 11) ++ leave 2 ++ second 1 (pos 5)) is (never 4 ++ (true ∷ never 4))
    ∷ by small (joined 0) is (false ∷ true ∷ []) ∷ by small (joined 2 ++ leave 0 ++ leave 0) is (never 5 ++ (true ∷ true ∷ true ∷ []))
    ∷ by clash (second 2 (pos 2)) is never 4 ∷ by clash (leave 2 ++ leave 0) is never 2 ∷ by clash (l 1 0 0 0 1 ∷ leave 0) is never 2
    ∷ by small (join 0 ++ leave 0 ++ take 1 front) is never 3 ∷ by small (take 5 (joined 2) ++ (l 15 2 0 0 0 ∷ [])) is never 6
    ∷ by locked (void_lines 0 (1 ∷ 2 ∷ []) ++ leave 0) is never 4
    ∷ [])
    -- no line of a list begins one; its last line does, or there is none
    × Hold
    (one clash [] is true ∷ one clash (second 2 (pos 2)) is true ∷ one clash (leave 0) is false ∷ one small (take 5 (joined 2)) is true
    ∷ one small (joined 2) is false ∷ one small (joined 0 ++ l 1 0 0 0 1 ∷ []) is false ∷ one clash (leave 2) is true
    ∷ at clash [] is true ∷ at clash (leave 0) is true ∷ at clash (leave 2) is false ∷ at small (joined 0) is true
    ∷ at small (joined 0 ++ l 1 0 0 0 1 ∷ []) is false
    ∷ at small (join 0) is false ∷ at clash (second 2 (pos 2)) is false ∷ at clash (second 2 (pos 2) ++ leave 0) is true
    -- kinds 7 and 8, whether or not they are taken
    ∷ some_link standard (second 2 (pos 2)) is false ∷ some_link standard (leave 9) is true ∷ some_link standard (l 1 0 0 0 1 ∷ join 0) is true
    ∷ [])
stretches = (refl, refl)

-- ---- logs that keep the rules

pub keeps :
    let by : Input → Log → Bool = λ i ts. keeps_log_rules standard i.case i.weights ts in
    Hold
    (by clash [] is true ∷ by clash (leave 0) is true ∷ by clash (leave 2) is false ∷ by clash (second 2 (pos 2)) is true
    ∷ by clash (take 3 (second 2 (pos 2))) is false
    ∷ by small (joined 2) is true ∷ by small (take 5 (joined 2)) is false ∷ by small (join 0) is false ∷ by small (joined 1 ++ leave 2) is true
    ∷ by single (leave 0) is false ∷ by locked (void_lines 0 (1 ∷ 2 ∷ [])) is true ∷ by locked (leave 0) is true
    ∷ [])
keeps = refl
