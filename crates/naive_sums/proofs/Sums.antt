-- Each naive transform is a list of angle sums over a table of a whole turn, of which unit places make up 1/(4n): dct2_is, dst2_is, dct3_is, where the sums go over
-- all entries but the first, and dst3_is, where they go over all but the last, and its half is added. All follow from the terms of a sum (sum_is). And what the transforms' `Ready` says of
-- sizes (room). Over any numbers. Assumes nothing.
use mathlib.Core.Path.{◌≡◌, refl, sym, ◌∙◌, ap, ap₂}
use mathlib.Core.Bool.{Bool, cond}
use mathlib.Core.List.{List}
use Prim.Native.Nat.{ℕ, zero, suc, ◌+◌, ◌*◌, ◌-◌, ◌%◌, ◌/◌, ◌<◌, ◌≤◌}
use native.Mathlib.Nat as Nat
use native.Mathlib.Omega.{arith}
use lib.Dec.{eqb, eqb→eq}
use lib.ListN.{length, get_or, take, drop, length-drop}
use lib.Seq.{get_or-take, length-take-le}
use Rattle.std.proofs.lemmas.List.{get_or_read}
use Rattle.ring.specs.Finite.{sum_of, tab}
use Rattle.ring.specs.Part.{part}
use Rattle.ring.proofs.Below.{eq→eqb, true_is, false_is}
use Rattle.ring.proofs.Factor.{factor_positive, factor_bound}
use Rattle.ring.proofs.Parts.{part_entry}
use Rattle.ring.proofs.Table.{tab_ext}
use Rattle.ring.proofs.Terms.{terms_more, terms_ext}
use Rattle.algorithms.specs.Naive.{naive_dct2, naive_dst2, naive_dct3, naive_dst3, last_halved}
use Rattle.algorithms.specs.Ops.{Ops, Twiddles, at}
use Rattle.numbers.specs.Closed.{Closed, AllFit}
use Rattle.naive_sums.specs.Circled.{Circled, read_twiddles}
use Rattle.naive_sums.specs.AngleSums.{angle_sum, angle_sums}
use Rattle.naive_sums.specs.Ready.{Ready, SumsReady}
use Rattle.naive_sums.proofs.Turns.{one_more}

-- the entries of a list of which the last one is halved
before_last : {A : Type 0} (O : Ops A) (W : Twiddles A) (x : List A) (i : ℕ) → suc i < length x → at O x i ≡ last_halved O W x i
before_last O W x i before =
    ap (λ (b : Bool). cond b (O.halve (at O x i)) (at O x i))
    (false_is (eqb (suc i) (length x)) (λ last. let here : suc i ≡ length x = eqb→eq (suc i) (length x) last in Nat.lt_irrefl 0 (omega arith)))

at_last : {A : Type 0} (O : Ops A) (W : Twiddles A) (x : List A) (i : ℕ) → suc i ≡ length x → O.halve (at O x i) ≡ last_halved O W x i
at_last O W x i last =
    ap (λ (b : Bool). cond b (O.halve (at O x i)) (at O x i)) (true_is (eqb (suc i) (length x)) (eq→eqb (suc i) (length x) last))

-- whole turns of b units taken off a units
units_off : (unit a b : ℕ) → 1 ≤ unit → 1 ≤ b → a * unit % (unit * b) ≡ a % b * unit
units_off unit a b more some =
    let split : a * unit ≡ a % b * unit + unit * b * (a / b) = ap (λ (z : ℕ). z * unit) (sym (Nat.mod-add-div a b)) ∙ omega arith in
    let below : a % b * unit < b * unit = Nat.mul-lt-mul_of_pos_right (Nat.mod-lt a some) more in
    ap (λ (z : ℕ). z % (unit * b)) split ∙ Nat.add-mul-mod_self_left (a % b * unit) (unit * b) (a / b)
    ∙ Nat.mod-eq_of_lt (omega (arith, below, Nat.mul_comm unit b))

-- the entries from n on are numbers
pub rest_numbers : {A : Type 0} {O : Ops A} {Fits : A → Type 0} (n : ℕ) (x : List A) → AllFit O Fits x → AllFit O Fits (part n (length x) x)
rest_numbers {O = O} n x numbers = record {
  each = λ k below.
      let within : k < length x - n = omega (arith, below, length-take-le (length x - n) (drop n x) (omega (arith, length-drop n x))) in
      rw (sym (part_entry O.none x n (length x) k (n + k) within refl)) (numbers.each (n + k) (omega arith));
}

-- an angle sum that begins with nought is a number
sum_fits : {A : Type 0} {O : Ops A} {Fits : A → Type 0} → Closed O Fits → (n : ℕ) (f : ℕ → A) → Fits (sum_of O.add O.nought n f)
unfolding sum_of
sum_fits closed zero f = closed.nought
sum_fits closed (suc n) f = closed.add _ _

pub angle_sum_fits : {A : Type 0} {O : Ops A} {Fits : A → Type 0} → Closed O Fits → (reads : ℕ → ℕ → A) (turn : ℕ) (x : List A) (begin : A) (first step : ℕ) {v : A}
    → v ≡ angle_sum O reads turn x begin first step → begin ≡ O.nought → Fits v
unfolding angle_sum
angle_sum_fits closed reads turn x begin first step is start = rw (is, start) (sum_fits closed _ _)

module _ {A C : Type 0} {O : Ops A} {Fits : A → Type 0} {reads : C → ℕ → ℕ → A} {turn : C → ℕ} {sound : C → Type 0} (law : Circled Fits reads turn sound)
    {circle : C} {parts unit : ℕ} {x out : List A} (ready : Ready O Fits turn sound circle parts unit x out) where
  pub record Room : Type 0 where
    pub some : 1 ≤ length x
    pub more : 1 ≤ unit
    pub fits : parts * unit ≤ turn circle
    pub bound : turn circle ≤ 8192

  pub room : Room
  room =
      let positive = law.some circle ready.circles in
      let by_entries : unit * parts * length x ≡ turn circle = omega (arith, ready.whole) in
      let by_unit : parts * length x * unit ≡ turn circle = omega (arith, ready.whole) in
      let by_parts : length x * (parts * unit) ≡ turn circle = omega (arith, ready.whole) in
      record {
        some = factor_positive (unit * parts) (length x) (turn circle) by_entries positive;
        more = factor_positive (parts * length x) unit (turn circle) by_unit positive;
        fits = factor_bound (length x) (parts * unit) (turn circle) by_parts positive;
        bound = law.small circle ready.circles;
      }

  -- so many units of a turn, which has parts · n of them
  units_read : (a : ℕ) → reads circle (a * unit % turn circle) (turn circle) ≡ reads circle (a % (parts * length x)) (parts * length x)
  units_read a =
      ap (λ (place : ℕ). reads circle place (turn circle))
      (ap (λ (n : ℕ). a * unit % n) (sym ready.whole)
      ∙ units_off unit a (parts * length x) room.more (factor_positive unit (parts * length x) (turn circle) ready.whole (law.some circle ready.circles)))
      ∙ law.units circle unit (a % (parts * length x)) (parts * length x) ready.circles ready.whole

  -- the sum of the m entries of y, by its terms: the entry i, and its units
  pub sum_is : {begin : A} (y : List A) (first step : ℕ) {m : ℕ} {h : A} (entry : ℕ → A) (units : ℕ → ℕ) → begin ≡ h
      → length y ≡ m → ((i : ℕ) → i < m → at O y i ≡ entry i) → ((i : ℕ) → first + i * step ≡ units i * unit)
      → angle_sum O (reads circle) (turn circle) y begin first step
      ≡ sum_of O.add h m (λ i. O.mul (entry i) (reads circle (units i % (parts * length x)) (parts * length x)))
  unfolding angle_sum
  sum_is y first step entry units start size entries places =
      rw (start, size)
      (terms_ext O.add _ _
      (λ i below. ap₂ O.mul (entries i below) (ap (λ (a : ℕ). reads circle (a % turn circle) (turn circle)) (places i) ∙ units_read (units i))))

  -- a list of them: the entry i, and its units in the sum k
  pub sums_are : {begin : A} {last : List A} (y : List A) (first firstMore step stepMore : ℕ) {m : ℕ} {h : A} (entry : ℕ → A) (units : ℕ → ℕ → ℕ) → begin ≡ h
      → length y ≡ m → ((i : ℕ) → i < m → at O y i ≡ entry i) → ((k i : ℕ) → first + k * firstMore + i * (step + k * stepMore) ≡ units k i * unit)
      → last ≡ angle_sums O (reads circle) (turn circle) (length out) y begin first firstMore step stepMore
      → last ≡ tab (length x) (λ k. sum_of O.add h m (λ i. O.mul (entry i) (reads circle (units k i % (parts * length x)) (parts * length x))))
  unfolding angle_sums
  sums_are y first firstMore step stepMore entry units start size entries places sums =
      sums
      ∙ rw ready.same
      (tab_ext (length x) (λ k _. sum_is y (first + k * firstMore) (step + k * stepMore) entry (units k) start size entries (places k)))

module _ {A C : Type 0} {O : Ops A} {Fits : A → Type 0} {reads : C → ℕ → ℕ → A} {turn : C → ℕ} {sound : C → Type 0} (law : Circled Fits reads turn sound)
    {circle : C} {unit : ℕ} {x out : List A} (ready : Ready O Fits turn sound circle 4 unit x out) where
  abbrev W : Twiddles A
  W = read_twiddles (reads circle)

  abbrev sums : List A → A → ℕ → ℕ → ℕ → ℕ → List A
  sums = angle_sums O (reads circle) (turn circle) (length out)

  -- what the sums of all entries but the first ask for
  pub rest_ready : {begin : A} → Fits begin → SumsReady O Fits turn sound circle (part 1 (length x) x) begin unit (2 * unit) unit (2 * unit)
  rest_ready begins =
      let r = room law ready in
      let one : unit < turn circle = omega (arith, r.fits, r.more) in
      let two : 2 * unit < turn circle = omega (arith, r.fits, r.more) in
      record {
        sum = record { circles = ready.circles; numbers = rest_numbers 1 x ready.numbers; begins = begins; first_below = one; step_below = one };
        first_more_below = two;
        step_more_below = two;
      }

  pub dct2_is : {begin : A} {last : List A} → begin ≡ O.nought → last ≡ sums x begin 0 unit 0 (2 * unit) → last ≡ naive_dct2 O W x
  unfolding naive_dct2
  dct2_is start = sums_are law ready x 0 unit 0 (2 * unit) (at O x) (λ k i. k * (2 * i + 1)) start refl (λ i _. refl) (λ k i. omega arith)

  pub dst2_is : {begin : A} {last : List A} → begin ≡ O.nought → last ≡ sums x begin unit unit (2 * unit) (2 * unit) → last ≡ naive_dst2 O W x
  unfolding naive_dst2
  dst2_is start = sums_are law ready x unit unit (2 * unit) (2 * unit) (at O x) (λ k i. (k + 1) * (2 * i + 1)) start refl (λ i _. refl) (λ k i. omega arith)

  pub dct3_is : {begin : A} {last : List A} → begin ≡ O.halve (at O x 0) → last ≡ sums (part 1 (length x) x) begin unit (2 * unit) unit (2 * unit) → last ≡ naive_dct3 O W x
  unfolding naive_dct3
  dct3_is start =
      sums_are law ready (part 1 (length x) x) unit (2 * unit) unit (2 * unit) (λ i. at O x (suc i)) (λ k i. suc i * (2 * k + 1)) start
      (length-take-le (length x - 1) (drop 1 x) (omega (arith, length-drop 1 x)))
      (λ i below. sym (part_entry O.none x 1 (length x) i (suc i) below (omega arith))) (λ k i. omega arith)

  pub dst3_is : {last : List A} {entry half : A} → entry ≡ get_or x (length x - 1) entry → half ≡ O.halve entry
      → last ≡ tab (length out) (λ k. one_more O (reads circle) (turn circle) x half (unit + k * (2 * unit)) (length x * unit + k * (2 * length x * unit)))
      → last ≡ naive_dst3 O W x
  unfolding naive_dst3 one_more
  dst3_is {entry = entry} {half} read halved sums = sums ∙ rw ready.same (tab_ext (length x) (λ k _. one k))
    where
      m : ℕ
      m = length x - 1

      more : m + 1 ≡ length x
      more = omega (arith, room law ready)

      term : ℕ → ℕ → A
      term k i = O.mul (last_halved O W x i) (reads circle ((i + 1) * (2 * k + 1) % (4 * length x)) (4 * length x))

      place : (k : ℕ) → length x * unit + k * (2 * length x * unit) ≡ (m + 1) * (2 * k + 1) * unit
      place k = ap (λ (n : ℕ). n * unit + k * (2 * n * unit)) (sym more) ∙ omega arith

      one : (k : ℕ) → one_more O (reads circle) (turn circle) x half (unit + k * (2 * unit)) (length x * unit + k * (2 * length x * unit))
          ≡ sum_of O.add O.nought (length x) (term k)
      one k =
          ap₂ O.add
          (sum_is law ready (take m x) (unit + k * (2 * unit)) (unit + k * (2 * unit)) (last_halved O W x) (λ i. (i + 1) * (2 * k + 1)) refl
          (length-take-le m x (omega arith)) (λ i below. get_or-take m x i O.none below ∙ before_last O W x i (omega (arith, more))) (λ i. omega arith))
          (ap₂ O.mul (halved ∙ ap O.halve (get_or_read x m entry (omega (arith, more)) read O.none) ∙ at_last O W x m (omega (arith, more)))
          (ap (λ (a : ℕ). reads circle (a % turn circle) (turn circle)) (place k) ∙ units_read law ready ((m + 1) * (2 * k + 1))))
          ∙ sym (terms_more O.add O.nought m (term k)) ∙ ap (λ (n : ℕ). sum_of O.add O.nought n (term k)) more
