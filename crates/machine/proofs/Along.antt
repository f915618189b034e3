-- Following a machine digit by digit: what stands after some digits, from a key to its cell and from a cell to its key.
use Rattle.std.proofs.Common.{◌≡◌, ℕ, zero, suc, ◌+◌, ◌-◌, ◌*◌, ◌/◌, ◌%◌, ◌^◌, ◌<◌, ◌≤◌, T, List, length, get_or, replicate, sym, ap, ◌∙◌, subst, ap₂, subst₂, add-zero, add_assoc, mod-lt, mod-eq_of_lt, mul_assoc, mul_comm, add-mul, mul-le-mul_left, pow-suc, mul-zero, div-add-mod', zero-add, zero-mul, mul-one, div-one, arith, pow_mono}
use native.Mathlib.Nat.{div-div-eq-div-mul, pow-zero, pow-le-pow_right}
use lib.Arith.{digits_lt, mod-mul}
use lib.ListN.{length-replicate, get_or-replicate}
use Rattle.arithmetic.proofs.Powers.{power_pos, times}
use Rattle.machine.specs.Machines.{Machine, Exact, point_at, keys, coord}
use Rattle.machine.specs.Means.{cell_from}
use Rattle.machine.specs.Points.{places}
use Rattle.machine.specs.Listed.{listed_is}
use Rattle.machine.specs.Digits.{keys_pos, keys_more, behind_lt, coord_lt, coord_at}

-- p behind x, and c behind both
regroup : (x W p V c : ℕ) → (x * W + p) * V + c ≡ x * (W * V) + (p * V + c)
regroup x W p V c =
    ap (λ (y : ℕ). y + c) (add-mul (x * W) p V ∙ ap (λ (y : ℕ). y + p * V) (mul_assoc x W V)) ∙ add_assoc (x * (W * V)) (p * V) c

-- the place of weight b ^ k goes back to those above it
place_back : (b x k c : ℕ) → x / b ^ suc k * b ^ suc k + (x / b ^ k % b * b ^ k + c) ≡ x / b ^ k * b ^ k + c
place_back b x k c =
    ap₂ (λ (y z : ℕ). y * z + (x / b ^ k % b * b ^ k + c)) (ap (λ (y : ℕ). x / y) (pow-suc b k) ∙ sym (div-div-eq-div-mul x (b ^ k) b)) (pow-suc b k ∙ mul_comm (b ^ k) b)
    ∙ sym (regroup (x / b ^ k / b) b (x / b ^ k % b) (b ^ k) c)
    ∙ ap (λ (y : ℕ). y * b ^ k + c) (div-add-mod' (x / b ^ k) b)

pub below_31 : {x k : ℕ} → k ≤ 30 → x < 2 ^ k → x < 2 ^ 31
below_31 {x} {k} h l = let p : 2 ^ k ≤ 2 ^ 30 = pow_mono h in omega arith

pub below_60 : {x bits : ℕ} → bits ≤ 60 → x < 2 ^ bits → x < 2 ^ 60
below_60 {x} {bits} h l = let p : 2 ^ bits ≤ 2 ^ 60 = pow_mono h in omega arith

one_less : (left : ℕ) → 0 < left → left ≡ suc (left - 1)
one_less left h = omega arith

-- From a key to its cell: all digits of the key but the last `left` are followed, up to the state st.
pub record Going {b : ℕ} {S : Type 0} (M : Machine b S) (order : ℕ) (s : S) (key left : ℕ) (st : S) (list : List ℕ) : Type 0 where
  pub state : T (M.is_state st)
  pub long : length list ≡ M.n
  pub so_far : (i : ℕ) → i < M.n → get_or list i 0 * b ^ left + coord M left st (key % keys M left) i ≡ coord M order s key i
  pub done : left ≤ 0 → list ≡ cell_from M order s key

-- From a cell to its key: all places of the coordinates but the last `left` are followed, up to the state st.
pub record Reading {b : ℕ} {S : Type 0} (M : Machine b S) (order : ℕ) (s : S) (list : List ℕ) (left : ℕ) (st : S) (key : ℕ) : Type 0 where
  pub state : T (M.is_state st)
  pub small : key < keys M (order - left)
  pub so_far : (r i : ℕ) → r < keys M left → i < M.n → coord M order s (key * keys M left + r) i ≡ get_or list i 0 / b ^ left * b ^ left + coord M left st r i
  pub below : left ≤ 0 → key < keys M order
  pub done : left ≤ 0 → cell_from M order s key ≡ list

module _ {b : ℕ} (pos : 0 < b) {S : Type 0} (M : Machine b S) (order : ℕ) (s : S) where
  going_done : (key left : ℕ) (st : S) (list : List ℕ) → length list ≡ M.n
      → ((i : ℕ) → i < M.n → get_or list i 0 * b ^ left + coord M left st (key % keys M left) i ≡ coord M order s key i)
      → left ≤ 0 → list ≡ cell_from M order s key
  going_done key zero st list long so_far h =
      listed_is M.n (coord M order s key) list long
      (λ i li. sym (add-zero (get_or list i 0 * 1) ∙ mul-one (get_or list i 0)) ∙ ap (λ (x : ℕ). get_or list i 0 * x + 0) (sym (pow-zero b)) ∙ so_far i li)
  going_done key (suc left) st list long so_far h = absurd (omega arith)

  reading_done : (list : List ℕ) (left : ℕ) (st : S) (key : ℕ) → length list ≡ M.n
      → ((r i : ℕ) → r < keys M left → i < M.n → coord M order s (key * keys M left + r) i ≡ get_or list i 0 / b ^ left * b ^ left + coord M left st r i)
      → left ≤ 0 → cell_from M order s key ≡ list
  reading_done list zero st key long so_far h = sym (listed_is M.n (coord M order s key) list long (λ i li. sym (at i li)))
    where
      whole : key * keys M 0 + 0 ≡ key
      whole = add-zero (key * keys M 0) ∙ ap (λ (x : ℕ). key * b ^ x) (mul-zero M.n) ∙ ap (λ (x : ℕ). key * x) (pow-zero b) ∙ mul-one key

      at : (i : ℕ) → i < M.n → coord M order s key i ≡ get_or list i 0
      at i li =
          ap (λ (x : ℕ). coord M order s x i) (sym whole)
          ∙ so_far 0 i (keys_pos pos M 0) li
          ∙ ap (λ (x : ℕ). get_or list i 0 / x * x + 0) (pow-zero b)
          ∙ add-zero (get_or list i 0 / 1 * 1) ∙ mul-one (get_or list i 0 / 1) ∙ div-one (get_or list i 0)
  reading_done list (suc left) st key long so_far h = absurd (omega arith)

  -- without the last fields, which the others give
  going : {key left : ℕ} {st : S} {list : List ℕ} → T (M.is_state st) → length list ≡ M.n
      → ((i : ℕ) → i < M.n → get_or list i 0 * b ^ left + coord M left st (key % keys M left) i ≡ coord M order s key i) → Going M order s key left st list
  going {key} {left} {st} {list} l long so_far =
      record { state = l; long = long; so_far = so_far; done = going_done key left st list long so_far }

  reading : {list : List ℕ} {left : ℕ} {st : S} {key : ℕ} → T (M.is_state st) → key < keys M (order - left) → length list ≡ M.n
      → ((r i : ℕ) → r < keys M left → i < M.n → coord M order s (key * keys M left + r) i ≡ get_or list i 0 / b ^ left * b ^ left + coord M left st r i)
      → Reading M order s list left st key
  reading {list} {left} {st} {key} l small long so_far =
      record {
        state = l;
        small = small;
        so_far = so_far;
        below = λ h. subst (λ (x : ℕ). key < keys M x) (let e : order - left ≡ order = omega arith in e) small;
        done = reading_done list left st key long so_far;
      }

  going_step : Exact M → (key k : ℕ) (st : S) (d p : ℕ) (list after : List ℕ) → d ≡ key / keys M k % b ^ M.n → p ≡ M.point st d → length after ≡ length list
      → ((i : ℕ) → i < M.n → get_or after i 0 ≡ get_or list i 0 * b + point_at b M.n p i)
      → Going M order s key (suc k) st list → Going M order s key k (M.next st d) after
  going_step exact key k st d p list after ed ep same put G =
      going
      (exact.closed st G.state d (subst (λ (x : ℕ). x < b ^ M.n) (sym ed) (mod-lt (key / keys M k) (power_pos b pos M.n))))
      (same ∙ G.long)
      (λ i li.
      ap (λ (x : ℕ). x * b ^ k + coord M k (M.next st d) rest i) (put i li)
      ∙ regroup (get_or list i 0) b (point_at b M.n p i) (b ^ k) (coord M k (M.next st d) rest i)
      ∙ ap₂ (λ (x q : ℕ). get_or list i 0 * x + (point_at b M.n q i * b ^ k + coord M k (M.next st d) rest i)) (times b pos k) ep
      ∙ ap (λ (x : ℕ). get_or list i 0 * b ^ suc k + x) (sym (coord_at pos M k st d rest i (mod-lt key (keys_pos pos M k))) ∙ ap (λ (x : ℕ). coord M (suc k) st x i) whole)
      ∙ G.so_far i li)
    where
      rest : ℕ
      rest = key % keys M k

      whole : d * keys M k + rest ≡ key % keys M (suc k)
      whole =
          ap (λ (x : ℕ). x * keys M k + rest) ed
          ∙ sym (mod-mul key (power_pos b pos M.n) (keys_pos pos M k)) ∙ ap (λ (x : ℕ). key % x) (keys_more pos M k)

  reading_step : Exact M → (list : List ℕ) (k : ℕ) (st : S) (key d : ℕ) → k < order → d < b ^ M.n → length list ≡ M.n
      → ((i : ℕ) → i < M.n → point_at b M.n (M.point st d) i ≡ places b k list i)
      → Reading M order s list (suc k) st key → Reading M order s list k (M.next st d) (key * b ^ M.n + d)
  reading_step exact list k st key d f hd long q G =
      reading (exact.closed st G.state d hd)
      (subst (λ (x : ℕ). key * b ^ M.n + d < keys M x) (let e : suc (order - suc k) ≡ order - k = omega arith in e) (behind_lt pos M (order - suc k) key d G.small hd))
      long
      (λ r i hr li.
      ap (λ (x : ℕ). coord M order s x i) (regroup key (b ^ M.n) d (keys M k) r ∙ ap (λ (x : ℕ). key * x + (d * keys M k + r)) (keys_more pos M k))
      ∙ G.so_far (d * keys M k + r) i (subst (λ (x : ℕ). d * keys M k + r < x) (keys_more pos M k) (digits_lt hd hr)) li
      ∙ ap (λ (x : ℕ). get_or list i 0 / b ^ suc k * b ^ suc k + x)
      (coord_at pos M k st d r i hr ∙ ap (λ (x : ℕ). x * b ^ k + coord M k (M.next st d) r i) (q i li))
      ∙ place_back b (get_or list i 0) k (coord M k (M.next st d) r i))

-- The same with what the code has: each fact is a premise.
module _ {b : ℕ} (pos : 0 < b) {S : Type 0} {M : Machine b S} {order : ℕ} {s : S} where
  pub going_first : {key left : ℕ} {st : S} {list : List ℕ} → T (M.is_state s) → key < keys M order → left ≡ order → st ≡ s → list ≡ replicate M.n 0
      → Going M order s key left st list
  going_first {key} {left} {st} {list} l h el es e =
      subst₂ (λ (x : ℕ) (y : S). Going M order s key x y list) (sym el) (sym es)
      (going pos M order s l (ap length e ∙ length-replicate M.n 0)
      (λ i li.
      ap₂ (λ (x y : ℕ). x * b ^ order + coord M order s y i) (ap (λ v. get_or v i 0) e ∙ get_or-replicate M.n i 0 0 li) (mod-eq_of_lt h)
      ∙ ap (λ (x : ℕ). x + coord M order s key i) (zero-mul (b ^ order)) ∙ zero-add (coord M order s key i)))

  pub going_small : {key left : ℕ} {st : S} {list : List ℕ} → Going M order s key left st list → (i : ℕ) → i < length list → get_or list i 0 < b ^ order
  going_small {key} {left} {st} {list} G i li =
      let e = G.so_far i (omega (arith, G.long)) in
      let l = coord_lt pos M order s key i in
      let m : get_or list i 0 * 1 ≤ get_or list i 0 * b ^ left = mul-le-mul_left (get_or list i 0) (power_pos b pos left) in
      let o = mul-one (get_or list i 0) in
      omega arith

  pub going_more : Exact M → {key left axes d p : ℕ} {st after-st : S} {list after : List ℕ} → Going M order s key left st list → 0 < left → axes ≡ M.n
      → d ≡ key / b ^ (axes * (left - 1)) % b ^ axes → p ≡ M.point st d → after-st ≡ M.next st d → length after ≡ length list
      → ((i : ℕ) → i < length list → get_or after i 0 ≡ get_or list i 0 * b + point_at b (length list) p i)
      → Going M order s key (left - 1) after-st after
  going_more exact {key} {left} {axes} {d} {p} {st} {after-st} {list} {after} G more en ed ep es same put =
      subst (λ (y : S). Going M order s key (left - 1) y after) (sym es)
      (going_step pos M order s exact key (left - 1) st d p list after (ed ∙ ap (λ (n : ℕ). key / b ^ (n * (left - 1)) % b ^ n) en) ep same
      (λ i li. put i (omega (arith, G.long)) ∙ ap (λ (n : ℕ). get_or list i 0 * b + point_at b n p i) G.long)
      (subst (λ (x : ℕ). Going M order s key x st list) (one_less left more) G))

  pub reading_fits : {list : List ℕ} {left key axes d : ℕ} {st : S} → Reading M order s list left st key → 0 < left → left ≤ order → axes ≡ M.n → d < b ^ M.n
      → key * b ^ axes + d < keys M order
  reading_fits {list} {left} {key} {axes} {d} {st} G more few en hd =
      let h = behind_lt pos M (order - left) key d G.small hd in
      let m : M.n * suc (order - left) ≤ M.n * order = mul-le-mul_left M.n (omega arith) in
      let w : b ^ (M.n * suc (order - left)) ≤ b ^ (M.n * order) = pow-le-pow_right pos m in
      subst (λ (x : ℕ). key * b ^ x + d < keys M order) (sym en) (omega arith)

  pub reading_more : Exact M → {list : List ℕ} {left key axes p d after : ℕ} {st after-st : S} → Reading M order s list left st key → 0 < left → left ≤ order
      → axes ≡ M.n → length list ≡ M.n → ((i : ℕ) → i < length list → point_at b (length list) p i ≡ places b (left - 1) list i)
      → d < b ^ M.n → M.point st d ≡ p → after-st ≡ M.next st d → after ≡ key * b ^ axes + d → Reading M order s list (left - 1) after-st after
  reading_more exact {list} {left} {key} {axes} {p} {d} {after} {st} {after-st} G more few en long q hd ep es ek =
      subst₂ (λ (y : S) (x : ℕ). Reading M order s list (left - 1) y x) (sym es) (ap (λ (n : ℕ). key * b ^ n + d) (sym en) ∙ sym ek)
      (reading_step pos M order s exact list (left - 1) st key d (omega arith) hd long
      (λ i li. ap₂ (λ (n x : ℕ). point_at b n x i) (sym long) ep ∙ q i (omega arith))
      (subst (λ (x : ℕ). Reading M order s list x st key) (one_less left more) G))
