-- In two axes the four states are one curve turned, and the published algorithm makes the same turns from the low digits up.
use Rattle.std.proofs.Common.{◌≡◌, ℕ, zero, suc, ◌+◌, ◌-◌, ◌*◌, ◌/◌, ◌%◌, ◌^◌, ◌<◌, ◌≤◌, cond, ltb, List, [], ◌∷◌, get_or, Some, None, Ok, Err, Option, Result, sym, refl, ap, ◌∙◌, subst, ap₂, subst₂, mod-lt, mod-eq_of_lt, mul_assoc, div-add-mod', mul-one, div-one, arith, pow_pos, shr-shr, shr_lt}
use native.Mathlib.Nat.{pow-succ', two-pow-succ}
use lib.Pow.{field, mod-mod-pow}
use Rattle.std.proofs.lemmas.Bool.Decides.{nat_tests}
use Rattle.grid.specs.declared.refusal.Refusal.{Refusal}
use Rattle.grid.specs.declared.refusal.Refusal.TheVariants.{Key}
use Rattle.grid.specs.Answers.{unless}
use Rattle.grid.specs.Grids.{grid_size, grid_refusal}
use Rattle.numbering.specs.Calls.{cell_refusal, CellAnswer}
use Rattle.numbering.specs.Keys.{cell_filled}
use Rattle.machine.specs.Machines.{point_at, coord}
use Rattle.machine.specs.Means.{means}
use Rattle.machine.specs.Digits.{coord_at}
use Rattle.machine.specs.Points.{two_pos}
use Rattle.diagram.specs.declared.pair.Pair.{Pair}
use Rattle.diagram.specs.Hindex.{hindex2xy, rounds, quarter, position, plane_refusal, AsPublished}
use Rattle.diagram.specs.Pairs.{point_of, next_of, origin, pair_machine}

-- the four states
abbrev s0 : Pair
s0 = record { start = 0; shift = 0 }

abbrev s1 : Pair
s1 = record { start = 0; shift = 1 }

abbrev s2 : Pair
s2 = record { start = 3; shift = 1 }

abbrev s3 : Pair
s3 = record { start = 3; shift = 0 }

X : ℕ → Pair → ℕ → ℕ
X k s key = coord (pair_machine 2) k s key 0

Y : ℕ → Pair → ℕ → ℕ
Y k s key = coord (pair_machine 2) k s key 1

-- the states 1, 2 and 3 from state 0
record Turned (k key : ℕ) : Type 0 where
  x1 : X k s1 key ≡ Y k s0 key
  y1 : Y k s1 key ≡ X k s0 key
  x2 : X k s2 key + Y k s0 key + 1 ≡ 2 ^ k
  y2 : Y k s2 key + X k s0 key + 1 ≡ 2 ^ k
  x3 : X k s3 key + X k s0 key + 1 ≡ 2 ^ k
  y3 : Y k s3 key + Y k s0 key + 1 ≡ 2 ^ k

-- one digit more, state by state
record Row (k d r : ℕ) : Type 0 where
  x0 : X (suc k) s0 (d * 2 ^ (2 * k) + r) ≡ point_at 2 2 (point_of 2 s0 d) 0 * 2 ^ k + X k (next_of 2 s0 d) r
  y0 : Y (suc k) s0 (d * 2 ^ (2 * k) + r) ≡ point_at 2 2 (point_of 2 s0 d) 1 * 2 ^ k + Y k (next_of 2 s0 d) r
  x1 : X (suc k) s1 (d * 2 ^ (2 * k) + r) ≡ point_at 2 2 (point_of 2 s1 d) 0 * 2 ^ k + X k (next_of 2 s1 d) r
  y1 : Y (suc k) s1 (d * 2 ^ (2 * k) + r) ≡ point_at 2 2 (point_of 2 s1 d) 1 * 2 ^ k + Y k (next_of 2 s1 d) r
  x2 : X (suc k) s2 (d * 2 ^ (2 * k) + r) ≡ point_at 2 2 (point_of 2 s2 d) 0 * 2 ^ k + X k (next_of 2 s2 d) r
  y2 : Y (suc k) s2 (d * 2 ^ (2 * k) + r) ≡ point_at 2 2 (point_of 2 s2 d) 1 * 2 ^ k + Y k (next_of 2 s2 d) r
  x3 : X (suc k) s3 (d * 2 ^ (2 * k) + r) ≡ point_at 2 2 (point_of 2 s3 d) 0 * 2 ^ k + X k (next_of 2 s3 d) r
  y3 : Y (suc k) s3 (d * 2 ^ (2 * k) + r) ≡ point_at 2 2 (point_of 2 s3 d) 1 * 2 ^ k + Y k (next_of 2 s3 d) r

row : (k d r : ℕ) → r < 2 ^ (2 * k) → Row k d r
unfolding X Y
row k d r h =
    record {
      x0 = coord_at two_pos (pair_machine 2) k s0 d r 0 h;
      y0 = coord_at two_pos (pair_machine 2) k s0 d r 1 h;
      x1 = coord_at two_pos (pair_machine 2) k s1 d r 0 h;
      y1 = coord_at two_pos (pair_machine 2) k s1 d r 1 h;
      x2 = coord_at two_pos (pair_machine 2) k s2 d r 0 h;
      y2 = coord_at two_pos (pair_machine 2) k s2 d r 1 h;
      x3 = coord_at two_pos (pair_machine 2) k s3 d r 0 h;
      y3 = coord_at two_pos (pair_machine 2) k s3 d r 1 h;
    }

turn_more : (k d r : ℕ) → d < 4 → Row k d r → Turned k r → Turned (suc k) (d * 2 ^ (2 * k) + r)
turn_more k zero r h w t = let e : 2 ^ suc k ≡ 2 ^ k + 2 ^ k = two-pow-succ k in omega arith
turn_more k (suc zero) r h w t = let e : 2 ^ suc k ≡ 2 ^ k + 2 ^ k = two-pow-succ k in omega arith
turn_more k (suc (suc zero)) r h w t = let e : 2 ^ suc k ≡ 2 ^ k + 2 ^ k = two-pow-succ k in omega arith
turn_more k (suc (suc (suc zero))) r h w t = let e : 2 ^ suc k ≡ 2 ^ k + 2 ^ k = two-pow-succ k in omega arith
turn_more k (suc (suc (suc (suc d)))) r h w t = absurd (omega arith)

four : (k : ℕ) → 2 * suc k ≡ 2 + 2 * k
four k = omega arith

front_lt : (k key : ℕ) → key < 2 ^ (2 * suc k) → key / 2 ^ (2 * k) < 4
front_lt k key h = shr_lt 2 (2 * k) (subst (λ (x : ℕ). key < 2 ^ x) (four k) h)

rest_lt : (k key : ℕ) → key % 2 ^ (2 * k) < 2 ^ (2 * k)
rest_lt k key = mod-lt key (pow_pos (2 * k))

turned : (k key : ℕ) → key < 2 ^ (2 * k) → Turned k key
unfolding X Y
turned zero key h = record { x1 = refl; y1 = refl; x2 = refl; y2 = refl; x3 = refl; y3 = refl }
turned (suc k) key h =
    subst (λ (x : ℕ). Turned (suc k) x) (div-add-mod' key (2 ^ (2 * k)))
    (turn_more k (key / 2 ^ (2 * k)) (key % 2 ^ (2 * k)) (front_lt k key h) (row k (key / 2 ^ (2 * k)) (key % 2 ^ (2 * k)) (rest_lt k key)) (turned k (key % 2 ^ (2 * k)) (rest_lt k key)))

-- the rounds of the published algorithm
round_front : (r h : ℕ) → h % 2 ^ (2 * suc r) / 4 ≡ h / 4 % 2 ^ (2 * r)
round_front r h = ap (λ (x : ℕ). h % 2 ^ x / 4) (let e : 2 * suc r ≡ 2 * r + 2 = omega arith in e) ∙ field h (2 * r) 2

round_low : (r h : ℕ) → h % 2 ^ (2 * suc r) % 4 ≡ h % 4
round_low r h = ap (λ (x : ℕ). h % 2 ^ x % 4) (let e : 2 * suc r ≡ 2 * r + 2 = omega arith in e) ∙ mod-mod-pow h (2 * r) 2

round_shift : (r h : ℕ) → h / 4 / 2 ^ (2 * r) ≡ h / 2 ^ (2 * suc r)
round_shift r h = shr-shr h 2 (2 * r) ∙ ap (λ (x : ℕ). h / 2 ^ x) (let e : 2 + 2 * r ≡ 2 * suc r = omega arith in e)

-- r rounds read r digits
rounds_mod : (r n2 h : ℕ) (c : ℕ × ℕ) → rounds r n2 h c ≡ rounds r n2 (h % 2 ^ (2 * r)) c
rounds_mod zero n2 h c = refl
rounds_mod (suc r) n2 h c =
    rounds_mod r (n2 * 2) (h / 4) (quarter n2 (h % 4) c)
    ∙ ap₂ (λ (x y : ℕ). rounds r (n2 * 2) x (quarter n2 y c)) (sym (round_front r h)) (sym (round_low r h))

-- the last round is that of the highest digit
rounds_last : (r n2 h : ℕ) (c : ℕ × ℕ) → rounds (suc r) n2 h c ≡ quarter (n2 * 2 ^ r) (h / 2 ^ (2 * r) % 4) (rounds r n2 h c)
rounds_last zero n2 h c = ap₂ (λ (x y : ℕ). quarter x (y % 4) c) (sym (mul-one n2)) (sym (div-one h))
rounds_last (suc r) n2 h c =
    rounds_last r (n2 * 2) (h / 4) (quarter n2 (h % 4) c)
    ∙ ap₂ (λ (x y : ℕ). quarter x (y % 4) (rounds r (n2 * 2) (h / 4) (quarter n2 (h % 4) c)))
    (mul_assoc n2 2 (2 ^ r) ∙ ap (λ (x : ℕ). n2 * x) (sym (pow-succ' 2 r))) (round_shift r h)

G : ℕ → ℕ → ℕ × ℕ
G j h = rounds j 2 (h / 4) (position (h % 4))

G_mod : (j h : ℕ) → G j h ≡ G j (h % 2 ^ (2 * suc j))
unfolding G
G_mod j h =
    rounds_mod j 2 (h / 4) (position (h % 4))
    ∙ ap₂ (λ (x y : ℕ). rounds j 2 x (position y)) (sym (round_front j h)) (sym (round_low j h))

G_last : (j h : ℕ) → G (suc j) h ≡ quarter (2 ^ suc j) (h / 2 ^ (2 * suc j) % 4) (G j h)
unfolding G
G_last j h =
    rounds_last j 2 (h / 4) (position (h % 4))
    ∙ ap₂ (λ (x y : ℕ). quarter x (y % 4) (rounds j 2 (h / 4) (position (h % 4)))) (sym (pow-succ' 2 j)) (round_shift j h)

pair : {a b c d : ℕ} → a ≡ c → b ≡ d → ◌≡◌ {A = ℕ × ℕ} (a, b) (c, d)
pair p q = λ i. (p i, q i)

-- a quarter of the square, from the curve of one order less
quarter_is : (k d r : ℕ) → d < 4 → Row k d r → Turned k r
    → quarter (2 ^ k) d (X k s0 r, Y k s0 r) ≡ (X (suc k) s0 (d * 2 ^ (2 * k) + r), Y (suc k) s0 (d * 2 ^ (2 * k) + r))
quarter_is k zero r h w t = pair (omega arith) (omega arith)
quarter_is k (suc zero) r h w t = pair (omega arith) (omega arith)
quarter_is k (suc (suc zero)) r h w t = pair (omega arith) (omega arith)
quarter_is k (suc (suc (suc zero))) r h w t = pair (omega arith) (omega arith)
quarter_is k (suc (suc (suc (suc d)))) r h w t = absurd (omega arith)

agrees : (j key : ℕ) → key < 2 ^ (2 * suc j) → G j key ≡ (X (suc j) s0 key, Y (suc j) s0 key)
unfolding G X Y
agrees zero zero h = refl
agrees zero (suc zero) h = refl
agrees zero (suc (suc zero)) h = refl
agrees zero (suc (suc (suc zero))) h = refl
agrees zero (suc (suc (suc (suc key)))) h = absurd (omega arith)
agrees (suc j) key h =
    G_last j key
    ∙ ap₂ (λ (d : ℕ) (c : ℕ × ℕ). quarter (2 ^ suc j) d c) (mod-eq_of_lt d_lt) (G_mod j key ∙ agrees j r (rest_lt (suc j) key))
    ∙ quarter_is (suc j) d r d_lt (row (suc j) d r (rest_lt (suc j) key)) (turned (suc j) r (rest_lt (suc j) key))
    ∙ ap {B = ℕ × ℕ} (λ x. (X (suc (suc j)) s0 x, Y (suc (suc j)) s0 x)) (div-add-mod' key (2 ^ (2 * suc j)))
  where
    d : ℕ
    d = key / 2 ^ (2 * suc j)

    r : ℕ
    r = key % 2 ^ (2 * suc j)

    d_lt : d < 4
    d_lt = front_lt (suc j) key h

pub agree : (k key : ℕ) → 1 ≤ k → key < 2 ^ (2 * k) → hindex2xy key k ≡ (coord (pair_machine 2) k origin key 0, coord (pair_machine 2) k origin key 1)
unfolding G X Y
agree zero key h l = absurd (omega arith)
agree (suc j) key h l = ap (λ (x : ℕ). rounds x 2 (key / 4) (position (key % 4))) (let e : suc j - 1 ≡ j = omega arith in e) ∙ agrees j key l

pub as_published : AsPublished
as_published k key h l = sym (ap (λ (c : ℕ × ℕ). c.0 ∷ (c.1 ∷ [])) (agree k key h l))

-- the call at two axes, from what setting and asking answered
module _ (order key : ℕ) where
  pub set_refused : (e : Refusal) → Some e ≡ grid_refusal 2 order → Some e ≡ plane_refusal order key
  set_refused e q = ap (λ (o : Option Refusal). elim o as (λ _. Option Refusal) [ Some x ↦ Some x | None ↦ cond (ltb key (grid_size 2 order)) None (Some (Key key)) ]) q

  set_met : None ≡ grid_refusal 2 order → cell_refusal (means (pair_machine 2) order origin) key (0 ∷ (0 ∷ [])) ≡ plane_refusal order key
  set_met q = ap (λ (o : Option Refusal). elim o as (λ _. Option Refusal) [ Some x ↦ Some x | None ↦ cond (ltb key (grid_size 2 order)) None (Some (Key key)) ]) q

  module _ (ok : None ≡ grid_refusal 2 order) (axes k a o : ℕ) (ea : axes ≡ unless (grid_refusal 2 order) 2 a) (ek : k ≡ unless (grid_refusal 2 order) order o) where
    here : {r : Result (Unit {0}) Refusal} {after : List ℕ} → CellAnswer (means (pair_machine axes) k origin) key (0 ∷ (0 ∷ [])) r after
        → CellAnswer (means (pair_machine 2) order origin) key (0 ∷ (0 ∷ [])) r after
    here {r} {after} =
        subst₂ (λ (n j : ℕ). CellAnswer (means (pair_machine n) j origin) key (0 ∷ (0 ∷ [])) r after)
        (ea ∙ ap (λ x. unless x 2 a) (sym ok)) (ek ∙ ap (λ x. unless x order o) (sym ok))

    pub cell_refused : (e : Refusal) (after : List ℕ) → CellAnswer (means (pair_machine axes) k origin) key (0 ∷ (0 ∷ [])) (Err e) after → Some e ≡ plane_refusal order key
    cell_refused e after c = (here c).refused ∙ set_met ok

    pub cell_answered : (u : Unit {0}) (after : List ℕ) → CellAnswer (means (pair_machine axes) k origin) key (0 ∷ (0 ∷ [])) (Ok u) after
        → (None ≡ plane_refusal order key) × (get_or after 0 0 ≡ (hindex2xy key order).0) × (get_or after 1 0 ≡ (hindex2xy key order).1)
    cell_answered u after c =
        let d = here c in
        let f = cell_filled (means (pair_machine 2) order origin) key (0 ∷ (0 ∷ [])) after u d in
        let is = f.is ∙ as_published order key least f.below in
        (d.refused ∙ set_met ok, ap (λ v. get_or v 0 0) is, ap (λ v. get_or v 1 0) is)
      where
        least : 1 ≤ order
        least = grind (arith, nat_tests)
