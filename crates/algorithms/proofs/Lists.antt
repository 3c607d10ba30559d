-- The entries of lists as the algorithms lay them out: backwards (back, reversed), forwards and then backwards (there-, back-, there_back_is), in quarters (quarters-),
-- in groups of four (by-fours), negated by turns (alternated) and by the half that a place is in (cond_below). `quarter` finds the quarter that a place is in.
-- A place counted from the end is given by an equation, i + suc k ≡ n. Over any type of entry. Assumes nothing.
use mathlib.Core.Path.{◌≡◌, refl, sym, ◌∙◌, ap, ap₂, subst}
use mathlib.Core.Bool.{Bool, true, false, not, cond}
use mathlib.Core.List.{List, ◌++◌}
use Prim.Native.Nat.{ℕ, suc, ◌+◌, ◌*◌, ◌-◌, ◌%◌, ◌/◌, ◌<◌, ◌≤◌}
use native.Mathlib.Omega.{arith}
use native.Mathlib.Decide.{dec_lt}
use lib.Dec.{T, ltb, ltb→lt, nltb→le}
use lib.ListN.{length, get_or, length-append, get_or-append}
use lib.Seq.{ext_get_or, get_or-append-add}
use Rattle.ring.specs.Finite.{tab}
use Rattle.ring.proofs.Table.{length_tab, get_or_tab}
use Rattle.algorithms.specs.Ops.{Ops, at}
use Rattle.algorithms.specs.Lists.{back, reversed, quarters, by_fours, pick_four, turned, alternated}

-- the quarter of 4n places that i is in, counted as it was laid out
pub data Quarter (n i : ℕ) : Type 0 where
  first : (k : ℕ) → k < n → i ≡ k → Quarter n i
  second : (k : ℕ) → k < n → i + suc k ≡ 2 * n → Quarter n i
  third : (k : ℕ) → k < n → i ≡ 2 * n + k → Quarter n i
  fourth : (k : ℕ) → k < n → i + suc k ≡ 4 * n → Quarter n i

pub quarter : (n i : ℕ) → i < 4 * n → Quarter n i
quarter n i l =
    elim (dec_lt i (2 * n)) [
      | yes low ↦ elim (dec_lt i n) [ yes b ↦ first i b refl | no b ↦ second (2 * n - suc i) (omega arith) (omega arith) ]
      | no high ↦
          elim (dec_lt i (3 * n)) [ yes b ↦ third (i - 2 * n) (omega arith) (omega arith) | no b ↦ fourth (4 * n - suc i) (omega arith) (omega arith) ]
    ]

module _ {A : Type 0} where
  -- a choice between the places below n and those from n on
  pub cond_below : (i n : ℕ) (a b v : A) → (i < n → a ≡ v) → (n ≤ i → b ≡ v) → cond (ltb i n) a b ≡ v
  cond_below i n a b v low high = by (ltb i n) refl
    where
      by : (t : Bool) → ltb i n ≡ t → cond t a b ≡ v
      by true e = low (ltb→lt i n (subst T (sym e) tt))
      by false e = high (nltb→le i n (subst (λ (t : Bool). T (not t)) (sym e) tt))

  pub length_back : (n : ℕ) (f : ℕ → A) → length (back n f) ≡ n
  unfolding back
  length_back n f = length_tab n (λ k. f (n - 1 - k))

  pub get_or_back : (n : ℕ) (f : ℕ → A) (i k : ℕ) (d : A) → i + suc k ≡ n → get_or (back n f) i d ≡ f k
  unfolding back
  get_or_back n f i k d e =
      let place : n - 1 - i ≡ k = omega arith in
      get_or_tab n (λ k. f (n - 1 - k)) i d (omega arith) ∙ ap f place

  -- what stands after n entries
  pub get_d_after : (xs ys : List A) (n i : ℕ) (d : A) → length xs ≡ n → get_or (xs ++ ys) (n + i) d ≡ get_or ys i d
  get_d_after xs ys n i d e = ap (λ (m : ℕ). get_or (xs ++ ys) (m + i) d) (sym e) ∙ get_or-append-add xs ys i d

  -- n entries of f, and then n of h backwards
  pub length_there_back : (n : ℕ) (f h : ℕ → A) → length (tab n f ++ back n h) ≡ 2 * n
  length_there_back n f h = omega (arith, length-append (tab n f) (back n h), length_tab n f, length_back n h)

  module _ (n : ℕ) (f h : ℕ → A) (d : A) where
    pub there_entry : (i : ℕ) → i < n → get_or (tab n f ++ back n h) i d ≡ f i
    there_entry i l =
        get_or-append (tab n f) (back n h) d i (omega (arith, length_tab n f)) ∙ get_or_tab n f i d l

    pub back_entry : (i k : ℕ) → k < n → i + suc k ≡ 2 * n → get_or (tab n f ++ back n h) i d ≡ h k
    back_entry i k l e =
        let place : i ≡ n + (i - n) = omega arith in
        ap (λ (m : ℕ). get_or (tab n f ++ back n h) m d) place
        ∙ get_d_after (tab n f) (back n h) n (i - n) d (length_tab n f) ∙ get_or_back n h (i - n) k d (omega arith)

  -- a list whose entries are those is that list
  pub there_back_is : (n : ℕ) (f h : ℕ → A) (d : A) (xs : List A) → length xs ≡ 2 * n → ((k : ℕ) → k < n → f k ≡ get_or xs k d)
      → ((i k : ℕ) → k < n → i + suc k ≡ 2 * n → h k ≡ get_or xs i d) → tab n f ++ back n h ≡ xs
  there_back_is n f h d xs whole there backwards =
      ext_get_or d (tab n f ++ back n h) xs (length_there_back n f h ∙ sym whole)
      (λ i l.
      elim (dec_lt i n) [
        | yes b ↦ there_entry n f h d i b ∙ there i b
        | no b ↦
            let below : i < 2 * n = omega (arith, length_there_back n f h) in
            back_entry n f h d i (2 * n - suc i) (omega arith) (omega arith) ∙ backwards i (2 * n - suc i) (omega arith) (omega arith)
      ])

  module _ (a b c d : ℕ → A) (n : ℕ) where
    at_fours : (m r : ℕ) → m % 4 ≡ r → m / 4 ≡ n → by_fours a b c d m ≡ pick_four a b c d r n
    unfolding by_fours
    at_fours m r remainder quotient = ap₂ (pick_four a b c d) remainder quotient

    pub by_fours_zero : by_fours a b c d (4 * n) ≡ a n
    by_fours_zero = at_fours (4 * n) 0 (omega arith) (omega arith)

    pub by_fours_one : by_fours a b c d (4 * n + 1) ≡ b n
    by_fours_one = at_fours (4 * n + 1) 1 (omega arith) (omega arith)

    pub by_fours_two : by_fours a b c d (4 * n + 2) ≡ c n
    by_fours_two = at_fours (4 * n + 2) 2 (omega arith) (omega arith)

    pub by_fours_three : by_fours a b c d (4 * n + 3) ≡ d n
    by_fours_three = at_fours (4 * n + 3) 3 (omega arith) (omega arith)

  -- four quarters
  module _ (n : ℕ) (a b c d : ℕ → A) where
    pub length_quarters : length (quarters n a b c d) ≡ 4 * n
    unfolding quarters
    length_quarters =
        omega (
          arith,
          length-append (tab n a) (back n b ++ (tab n c ++ back n d)),
          length-append (back n b) (tab n c ++ back n d),
          length_tab n a,
          length_back n b,
          length_there_back n c d,
        )

    module _ (e : A) where
      pub quarters_first : (k : ℕ) → k < n → get_or (quarters n a b c d) k e ≡ a k
      unfolding quarters
      quarters_first k l = get_or-append (tab n a) _ e k (omega (arith, length_tab n a)) ∙ get_or_tab n a k e l

      pub quarters_second : (i k : ℕ) → k < n → i + suc k ≡ 2 * n → get_or (quarters n a b c d) i e ≡ b k
      unfolding quarters
      quarters_second i k l h =
          let place : i ≡ n + (i - n) = omega arith in
          ap (λ (m : ℕ). get_or (tab n a ++ (back n b ++ (tab n c ++ back n d))) m e) place
          ∙ get_d_after (tab n a) (back n b ++ (tab n c ++ back n d)) n (i - n) e (length_tab n a)
          ∙ get_or-append (back n b) (tab n c ++ back n d) e (i - n) (omega (arith, length_back n b))
          ∙ get_or_back n b (i - n) k e (omega arith)

      upper_half : (i : ℕ) → get_or (quarters n a b c d) (2 * n + i) e ≡ get_or (tab n c ++ back n d) i e
      unfolding quarters
      upper_half i =
          let place : 2 * n + i ≡ n + (n + i) = omega arith in
          ap (λ (m : ℕ). get_or (tab n a ++ (back n b ++ (tab n c ++ back n d))) m e) place
          ∙ get_d_after (tab n a) (back n b ++ (tab n c ++ back n d)) n (n + i) e (length_tab n a)
          ∙ get_d_after (back n b) (tab n c ++ back n d) n i e (length_back n b)

      pub quarters_third : (k : ℕ) → k < n → get_or (quarters n a b c d) (2 * n + k) e ≡ c k
      quarters_third k l = upper_half k ∙ there_entry n c d e k l

      pub quarters_fourth : (i k : ℕ) → k < n → i + suc k ≡ 4 * n → get_or (quarters n a b c d) i e ≡ d k
      quarters_fourth i k l h =
          let place : i ≡ 2 * n + (i - 2 * n) = omega arith in
          ap (λ (m : ℕ). get_or (quarters n a b c d) m e) place ∙ upper_half (i - 2 * n) ∙ back_entry n c d e (i - 2 * n) k l (omega arith)

  module _ (O : Ops A) (x : List A) where
    pub length_reversed : length (reversed O x) ≡ length x
    unfolding reversed
    length_reversed = length_back (length x) (at O x)

    pub get_or_reversed : (i k : ℕ) (d : A) → i + suc k ≡ length x → get_or (reversed O x) i d ≡ at O x k
    unfolding reversed
    get_or_reversed i k d e = get_or_back (length x) (at O x) i k d e

    pub length_alternated : length (alternated O x) ≡ length x
    unfolding alternated
    length_alternated = length_tab (length x) _

    pub get_or_alternated : (k : ℕ) (d : A) → k < length x → get_or (alternated O x) k d ≡ turned O k (at O x k)
    unfolding alternated
    get_or_alternated k d l = get_or_tab (length x) (λ i. turned O i (at O x i)) k d l

  -- read backwards twice, a list is as it was
  pub reversed_twice : (O : Ops A) (x : List A) → reversed O (reversed O x) ≡ x
  reversed_twice O x =
      let whole : length (reversed O x) ≡ length x = length_reversed O x in
      let again : length (reversed O (reversed O x)) ≡ length (reversed O x) = length_reversed O (reversed O x) in
      ext_get_or O.none (reversed O (reversed O x)) x (again ∙ whole)
      (λ k l.
      get_or_reversed O (reversed O x) k (length x - suc k) O.none (omega arith)
      ∙ get_or_reversed O x (length x - suc k) k O.none (omega arith))
