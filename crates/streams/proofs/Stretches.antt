-- What reads brought stands in the buffer, one stretch after the other. Assumes nothing.
use Rattle.std.proofs.Common.{◌≡◌, sym, ap, subst, ◌∙◌, ℕ, ◌+◌, ◌≤◌, List, ◌++◌, append_assoc, length, take, drop, arith, length-take-le, take-append-drop}
use Rattle.std.proofs.lemmas.List.{drop-take, take-append-le, drop-append-le}
use Rattle.std.proofs.Math.Seq.{take-take, drop_at}
use borrow.Rule.Slice.PartMut.{put_mid, post_of}
use Rattle.std.specs.Prelude.{Option, None, Some}
use Rattle.std.specs.Io.KnownBytes.{Consumes}

-- the bytes before `from` are kept
pub kept_on : (from at : ℕ) (first old new : List ℕ) → from ≤ at → take at new ≡ take at old → take from old ≡ take from first → take from new ≡ take from first
kept_on from at first old new h e q = sym (take-take from at new h) ∙ ap (take from) e ∙ take-take from at old h ∙ q

-- what a read to the part from byte `at` on brought stands there
pub read_stands : (a b : Option (List ℕ)) (at n k : ℕ) (xs ys : List ℕ) → at ≤ length xs → n ≤ length ys → Consumes a b (take n ys)
    → Consumes a b (drop at (take (at + n) (put_mid at k xs ys)))
read_stands a b at n k xs ys h l q =
    let rest = post_of at k xs in
    let e : drop at (take (at + n) (take at xs ++ (ys ++ rest))) ≡ take n ys =
    drop-take at n (take at xs ++ (ys ++ rest)) ∙ ap (take n) (drop_at (take at xs) (ys ++ rest) at (length-take-le at xs h)) ∙ take-append-le n ys rest l in
    subst (Consumes a b) (sym e) q

-- the bytes from `from` on, where those before `at` are as they were
pub two_reads : (from at to : ℕ) (old new : List ℕ) → from ≤ at → at ≤ to → at ≤ length new → take at new ≡ take at old
    → drop from (take to new) ≡ drop from (take at old) ++ drop at (take to new)
two_reads from at to old new h k l e =
    ap (drop from) (sym (take-append-drop at (take to new)) ∙ ap (λ t. t ++ drop at (take to new)) (take-take at to new k ∙ e))
    ∙ drop-append-le from (take at old) (drop at (take to new)) (omega (arith, length-take-le at new l, ap length e))

-- a stretch, and then another
pub consumes_next : (a b c : Option (List ℕ)) (xs ys : List ℕ) → Consumes a b xs → Consumes b c ys → Consumes a c (xs ++ ys)
consumes_next None b c xs ys p q = tt
consumes_next (Some a) None c xs ys p q = absurd p
consumes_next (Some a) (Some b) None xs ys p q = absurd q
consumes_next (Some a) (Some b) (Some c) xs ys p q = p ∙ ap (λ t. xs ++ t) q ∙ sym (append_assoc xs ys c)

pub reads_next : (a b c : Option (List ℕ)) (from at to : ℕ) (old new : List ℕ) → from ≤ at → at ≤ to → at ≤ length new → take at new ≡ take at old
    → Consumes a b (drop from (take at old)) → Consumes b c (drop at (take to new)) → Consumes a c (drop from (take to new))
reads_next a b c from at to old new h k l e p q =
    subst (Consumes a c) (sym (two_reads from at to old new h k l e)) (consumes_next a b c (drop from (take at old)) (drop at (take to new)) p q)
