-- The X2 sequence grows by one axis: what the builder's steps do to a list.
use Rattle.std.proofs.Common.{◌≡◌, ℕ, zero, suc, ◌+◌, ◌-◌, ◌/◌, ◌^◌, ◌<◌, ◌≤◌, Bool, true, false, cond, T, eqb, ltb, List, [], ◌∷◌, ◌++◌, map, reverse, length, get_or, take, drop, set, sym, refl, ap, ◌∙◌, ap₂, arith, eqb→eq, ltb→lt, length-append, length-set, length-take-le, take_all, drop-drop, take_at, drop_at, pow_pos}
use native.Mathlib.Nat.{two-pow-succ, pow-le-pow_right}
use Rattle.std.proofs.lemmas.List.{append-nil, append_assoc, drop_all, drop_more, map_more, set_at}
use lib.Bits.{bit_xor}
use lib.ListN.{length-reverse, length-map, get_or-append}
use Rattle.grid.proofs.Limited.{two_to_eight}
use Rattle.diagram.specs.Computed.{both_left, both_right}
use Rattle.diagram.specs.Rows.{x2, repeat_last, lead_last, doubled, invert_upper}

-- the half that steps 1 and 2 make
abbrev pub half : ℕ → List ℕ → List ℕ
half lead l = lead_last lead (repeat_last l)

abbrev pub grow : ℕ → List ℕ → List ℕ
grow lead l = invert_upper lead (doubled (half lead l))

pub x2_grow : (n : ℕ) → 2 ≤ n → x2 n ≡ grow (2 ^ (n - 1)) (x2 (n - 1))
x2_grow zero h = absurd (omega arith)
x2_grow (suc zero) h = absurd (omega arith)
x2_grow (suc (suc m)) h = ap (λ (k : ℕ). grow (2 ^ k) (x2 k)) (let e : suc m ≡ suc (suc m) - 1 = omega arith in e)

-- the upper half of a doubled list is its mirror image
pub grow_is : (lead : ℕ) (l : List ℕ) → grow lead l ≡ half lead l ++ map (bit_xor lead) (reverse (half lead l))
grow_is lead l =
    ap₂ (λ (a b : List ℕ). a ++ map (bit_xor lead) b) (take_at h (reverse h) k (sym two)) (drop_at h (reverse h) k (sym two))
  where
    h : List ℕ
    h = half lead l

    k : ℕ
    k = length (h ++ reverse h) / 2

    two : k ≡ length h
    two = omega (arith, length-append h (reverse h), length-reverse h)

pub length_half : (lead : ℕ) (l : List ℕ) → length (half lead l) ≡ length l
length_half lead [] = refl
length_half lead (a ∷ []) = refl
length_half lead (a ∷ (b ∷ [])) = refl
length_half lead (a ∷ (b ∷ (c ∷ []))) = refl
length_half lead (a ∷ (b ∷ (c ∷ (d ∷ r)))) = ap suc (length_half lead (b ∷ (c ∷ (d ∷ r))))

-- steps 1 and 2 as one store at the last place
pub half_set : (lead : ℕ) (l rest : List ℕ) (m : ℕ) → length l ≡ suc (suc m)
    → set (l ++ rest) (suc m) (get_or (l ++ rest) m 0 + lead) ≡ half lead l ++ rest
half_set lead [] rest m e = absurd (omega arith)
half_set lead (a ∷ []) rest m e = absurd (omega arith)
half_set lead (a ∷ (b ∷ [])) rest zero e = refl
half_set lead (a ∷ (b ∷ [])) rest (suc m) e = absurd (omega arith)
half_set lead (a ∷ (b ∷ (c ∷ r))) rest zero e = absurd (omega arith)
half_set lead (a ∷ (b ∷ (c ∷ []))) rest (suc m) e = ap {B = List ℕ} (λ x. a ∷ x) (half_set lead (b ∷ (c ∷ [])) rest m (omega arith))
half_set lead (a ∷ (b ∷ (c ∷ (d ∷ r)))) rest (suc m) e = ap {B = List ℕ} (λ x. a ∷ x) (half_set lead (b ∷ (c ∷ (d ∷ r))) rest m (omega arith))

-- facts of the sequences for 1 to 8 axes, computed
abbrev pub all_below : ℕ → List ℕ → Bool
all_below m [] = true
all_below m (x ∷ l) = cond (ltb x m) (all_below m l) false

abbrev right : ℕ → Bool
right n = cond (eqb (length (x2 n)) (2 ^ suc n)) (all_below (2 ^ n) (x2 n)) false

all_right : (n : ℕ) → 1 ≤ n → n ≤ 8 → T (right n)
all_right zero h k = absurd (omega arith)
all_right (suc zero) h k = tt
all_right (suc (suc n)) h k = two_to_eight (λ (n : ℕ). T (right n)) tt tt tt tt tt tt tt (suc (suc n)) (omega arith) k

pub length_x2 : (n : ℕ) → 1 ≤ n → n ≤ 8 → length (x2 n) ≡ 2 ^ suc n
length_x2 n h k = eqb→eq (length (x2 n)) (2 ^ suc n) (both_left (eqb (length (x2 n)) (2 ^ suc n)) (all_below (2 ^ n) (x2 n)) (all_right n h k))

below_at : (m : ℕ) (l : List ℕ) → T (all_below m l) → (i : ℕ) → i < length l → get_or l i 0 < m
below_at m [] t i h = absurd (omega arith)
below_at m (x ∷ l) t zero h = ltb→lt x m (both_left (ltb x m) (all_below m l) t)
below_at m (x ∷ l) t (suc i) h = below_at m l (both_right (ltb x m) (all_below m l) t) i (omega arith)

pub x2_lt : (n : ℕ) → 1 ≤ n → n ≤ 8 → (i : ℕ) → i < 2 ^ suc n → get_or (x2 n) i 0 < 2 ^ n
x2_lt n h k i l =
    below_at (2 ^ n) (x2 n) (both_right (eqb (length (x2 n)) (2 ^ suc n)) (all_below (2 ^ n) (x2 n)) (all_right n h k)) i
    (omega (arith, length_x2 n h k))

-- the builder's list, from the sequence l of one axis fewer in front of what was there
module _ (e0 l : List ℕ) (lead len : ℕ) (hl : length l ≡ len) (two : 2 ≤ len) (room : len + len ≤ length e0) where
  abbrev stored : List ℕ
  stored = set (l ++ drop len e0) (len - 1) (get_or (l ++ drop len e0) (len - 2) 0 + lead)

  pub stored_is : stored ≡ half lead l ++ drop len e0
  stored_is =
      ap₂ (λ (i j : ℕ). set (l ++ drop len e0) i (get_or (l ++ drop len e0) j 0 + lead)) (let e : len - 1 ≡ suc (len - 2) = omega arith in e) refl
      ∙ half_set lead l (drop len e0) (len - 2) (omega arith)

  long : length (half lead l) ≡ len
  long = length_half lead l ∙ hl

  -- the half once more behind itself, back to front and with the leading bit inverted
  pub built : (front upper back : List ℕ) → front ≡ take len stored → back ≡ drop len stored → upper ≡ map (bit_xor lead) (reverse front)
      → front ++ (upper ++ drop len back) ≡ grow lead l ++ drop (len + len) e0
  built front upper back ef eb eu =
      ap₂ (λ (a b : List ℕ). a ++ b) first
      (ap₂ (λ (a b : List ℕ). a ++ b) (eu ∙ ap (λ (x : List ℕ). map (bit_xor lead) (reverse x)) first)
      (ap (drop len) (eb ∙ ap (drop len) stored_is ∙ drop_at h (drop len e0) len long) ∙ drop-drop len len e0))
      ∙ sym (append_assoc h (map (bit_xor lead) (reverse h)) rest) ∙ ap (λ (x : List ℕ). x ++ rest) (sym (grow_is lead l))
    where
      h : List ℕ
      h = half lead l

      rest : List ℕ
      rest = drop (len + len) e0

      first : front ≡ h
      first = ef ∙ ap (take len) stored_is ∙ take_at h (drop len e0) len long

-- a turn of a loop that puts f of each member of r in the place of l's
pub map_turn : (f : ℕ → ℕ) (r l us : List ℕ) (i : ℕ) → i < length r → i < length l → us ≡ map f (take i r) ++ drop i l
    → set us i (f (get_or r i 0)) ≡ map f (take (i + 1) r) ++ drop (i + 1) l
map_turn f r l us i hr hl e =
    ap (λ (u : List ℕ). set u i (f y)) (e ∙ ap (λ (x : List ℕ). front ++ x) (drop_more l i 0 hl))
    ∙ set_at front (get_or l i 0) rest (f y) i long
    ∙ sym (ap (λ (x : List ℕ). x ++ rest) (map_more f r i 0 hr) ∙ append_assoc front (f y ∷ []) rest)
  where
    front : List ℕ
    front = map f (take i r)

    y : ℕ
    y = get_or r i 0

    rest : List ℕ
    rest = drop (i + 1) l

    long : length front ≡ i
    long = length-map (take i r) f ∙ length-take-le i r (omega arith)

pub map_done : (f : ℕ → ℕ) (r l us : List ℕ) (i : ℕ) → length r ≤ i → length l ≤ i → us ≡ map f (take i r) ++ drop i l → us ≡ map f r
map_done f r l us i hr hl e = e ∙ ap₂ (λ (a b : List ℕ). map f a ++ b) (take_all i r hr) (drop_all i l hl) ∙ append-nil (map f r)

-- the builder's call, from what its inner call promised
module _ (n len : ℕ) (e0 out0 : List ℕ) (lo : 2 ≤ n) (hi : n ≤ 8) (hlen : len ≡ 2 ^ suc (n - 1))
    (hout : out0 ≡ x2 (n - 1) ++ drop (2 ^ suc (n - 1)) e0) (room : 2 ^ suc n ≤ length e0) where
  twofold : 2 ^ suc n ≡ len + len
  twofold = ap (λ (k : ℕ). 2 ^ suc k) (let e : n ≡ suc (n - 1) = omega arith in e) ∙ two-pow-succ (suc (n - 1)) ∙ ap₂ ◌+◌ (sym hlen) (sym hlen)

  lead_is : len / 2 ≡ 2 ^ (n - 1)
  lead_is = let e : len ≡ 2 ^ (n - 1) + 2 ^ (n - 1) = hlen ∙ two-pow-succ (n - 1) in omega arith

  pub len_two : 2 ≤ len
  len_two = let e : len ≡ 2 ^ (n - 1) + 2 ^ (n - 1) = hlen ∙ two-pow-succ (n - 1) in let p : 0 < 2 ^ (n - 1) = pow_pos (n - 1) in omega arith

  long_inner : length (x2 (n - 1)) ≡ len
  long_inner = length_x2 (n - 1) (omega arith) (omega arith) ∙ sym hlen

  pub room_twice : len + len ≤ length e0
  room_twice = omega (arith, twofold)

  pub upper_long : (back : List ℕ) (x : ℕ) → length out0 ≡ length e0 → length back + len ≡ length (set out0 (len - 1) x) → length (take len back) ≡ len
  upper_long back x same parts = length-take-le len back (omega (arith, room_twice, length-set out0 (len - 1) x))

  pub sum_fits : get_or out0 (len - 2) 0 + len / 2 < 256
  sum_fits =
      let e : get_or out0 (len - 2) 0 ≡ get_or (x2 (n - 1)) (len - 2) 0
      = ap (λ (x : List ℕ). get_or x (len - 2) 0) hout
      ∙ get_or-append (x2 (n - 1)) (drop (2 ^ suc (n - 1)) e0) 0 (len - 2) (omega (arith, long_inner, len_two)) in
      let l : get_or (x2 (n - 1)) (len - 2) 0 < 2 ^ (n - 1) = x2_lt (n - 1) (omega arith) (omega arith) (len - 2) (omega (arith, hlen, len_two)) in
      let b : 2 ^ (n - 1) ≤ 2 ^ 7 = pow-le-pow_right {n = 2} (omega arith) {i = n - 1} {j = 7} (omega arith) in
      omega (arith, lead_is)

  pub whole : (front upper back : List ℕ)
      → front ≡ take len (set out0 (len - 1) (get_or out0 (len - 2) 0 + len / 2))
      → back ≡ drop len (set out0 (len - 1) (get_or out0 (len - 2) 0 + len / 2))
      → upper ≡ map (bit_xor (len / 2)) (reverse front)
      → front ++ (upper ++ drop len back) ≡ x2 n ++ drop (2 ^ suc n) e0
  whole front upper back ef eb eu =
      let at = ap (λ (x : List ℕ). set x (len - 1) (get_or x (len - 2) 0 + len / 2)) (hout ∙ ap (λ (k : ℕ). x2 (n - 1) ++ drop k e0) (sym hlen)) in
      built e0 (x2 (n - 1)) (len / 2) len long_inner len_two room_twice front upper back (ef ∙ ap (take len) at) (eb ∙ ap (drop len) at) eu
      ∙ ap₂ (λ (x : List ℕ) (k : ℕ). x ++ drop k e0) (ap (λ (b : ℕ). grow b (x2 (n - 1))) lead_is ∙ sym (x2_grow n lo)) (sym twofold)
