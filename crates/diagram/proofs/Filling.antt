-- The entries written to the lent list, row by row.
use Rattle.std.proofs.Common.{◌≡◌, ℕ, suc, ◌+◌, ◌*◌, ◌^◌, ◌<◌, ◌≤◌, List, ◌++◌, map, length, get_or, take, drop, sym, ap, ◌∙◌, subst, ap₂, suc-mul, add-one, append_assoc, refl, arith}
use borrow.Rule.Slice.PartMut.{put_mid}
use Rattle.std.specs.List.{Contains, ContainsAt as Has}
use Rattle.std.proofs.lemmas.Nat.{mul-le}
use Rattle.std.proofs.Math.Seq.{take-add}
use Rattle.std.proofs.lemmas.List.{length-append, take_at, drop_at, drop-drop, length-take-le}
use Rattle.std.proofs.lemmas.List.Elements.{at_from_Contains, Contains-from_at}
use Rattle.arithmetic.proofs.Fronts.{Front, front_all, rest_on}
use Rattle.grid.specs.declared.axis_count.AxisCount.{AxisCount}
use Rattle.diagram.specs.declared.entry.Entry.{Entry}
use Rattle.diagram.specs.declared.pair.Pair.{Pair}
use Rattle.diagram.specs.Diagrams.{entries, entry_of}
use Rattle.diagram.specs.Pairs.{next_of, origin}
use Rattle.diagram.specs.States.{below, most_states, states}
use Rattle.diagram.proofs.Closing.{few, states_distinct, states_next}
use Rattle.diagram.proofs.EntryAt.{length_row, length_entries, entries_row}
use Rattle.diagram.proofs.Even.{Even}

-- a part written right behind a front
front_part : {X : Type 0} {whole former : List X} (l part : List X) (k w : ℕ) → k + w ≤ length l → length part ≡ w → part ≡ take w (drop k whole)
    → Front whole former l k → Front whole former (put_mid k w l part) (k + w)
front_part {X} {whole} {former} l part k w room long is f = record { like = like; rest = rest }
  where
    front : List X
    front = take k l ++ part

    front_long : length front ≡ k + w
    front_long = omega (arith, length-append (take k l) part, length-take-le k l (omega arith))

    split : put_mid k w l part ≡ front ++ drop w (drop k l)
    split = sym (append_assoc (take k l) part (drop w (drop k l)))

    like : take (k + w) (put_mid k w l part) ≡ take (k + w) whole
    like = ap (take (k + w)) split ∙ take_at front (drop w (drop k l)) (k + w) front_long ∙ ap₂ (λ (x y : List X). x ++ y) f.like is ∙ sym (take-add k w whole)

    rest : drop (k + w) (put_mid k w l part) ≡ drop (k + w) former
    rest =
        ap (drop (k + w)) split ∙ drop_at front (drop w (drop k l)) (k + w) front_long ∙ drop-drop w k l
        ∙ rest_on k (k + w) l l former (omega arith) refl f.rest

module _ (a : AxisCount) where
  -- the next state of one of the states is one of them
  pub next_known : (s next : Pair) (d : ℕ) → Contains (states a.count) s → d < 2 ^ a.count → next ≡ next_of a.count s d → Contains (states a.count) next
  next_known s next d k h is =
      let i = at_from_Contains (states a.count) s k in
      Contains-from_at (states a.count) next
      (subst (Has (states a.count)) (ap (λ (x : Pair). next_of a.count x d) (i.2 origin) ∙ sym is) (states_next a.count a.least a.most i.0 d i.1 h))

  module _ (rs : List Pair) (is : rs ≡ states a.count) where
    pub few_states : length rs ≤ most_states a.count
    few_states = omega (arith, few a.count a.least a.most (states a.count) (states_distinct a.count a.least a.most), ap length is)

    pub even_of : (i : ℕ) → i < length rs → Even a.count (get_or rs i origin)
    even_of i h = subst (λ (l : List Pair). Even a.count (get_or l i origin)) (sym is) ((states_distinct a.count a.least a.most).even i (omega (arith, ap length is)))

    pub row_room : (i long : ℕ) → i < length rs → length rs * 2 ^ a.count ≤ long → i * 2 ^ a.count + 2 ^ a.count ≤ long
    row_room i long h room = omega (arith, suc-mul i (2 ^ a.count), mul-le (suc i) (2 ^ a.count) (length rs) (2 ^ a.count) (omega arith) (omega arith))

    pub fill_row : {former : List Entry} (es row : List Entry) (i : ℕ) → i < length rs → length rs * 2 ^ a.count ≤ length es
        → row ≡ map (entry_of a.count (states a.count) (get_or rs i origin)) (below (2 ^ a.count)) → Front (entries a.count) former es (i * 2 ^ a.count)
        → Front (entries a.count) former (put_mid (i * 2 ^ a.count) (2 ^ a.count) es row) ((i + 1) * 2 ^ a.count)
    fill_row {former} es row i h room e f =
        subst (Front (entries a.count) former (put_mid (i * 2 ^ a.count) (2 ^ a.count) es row)) next
        (front_part es row (i * 2 ^ a.count) (2 ^ a.count) (row_room i (length es) h room) (ap length e ∙ length_row a.count (states a.count) (get_or rs i origin)) part f)
      where
        next : i * 2 ^ a.count + 2 ^ a.count ≡ (i + 1) * 2 ^ a.count
        next = omega (arith, suc-mul i (2 ^ a.count), ap (λ (x : ℕ). x * 2 ^ a.count) (add-one i))

        part : row ≡ take (2 ^ a.count) (drop (i * 2 ^ a.count) (entries a.count))
        part =
            e ∙ ap (λ (l : List Pair). map (entry_of a.count (states a.count) (get_or l i origin)) (below (2 ^ a.count))) is
            ∙ sym (entries_row a.count i (omega (arith, ap length is)))

    pub fill_all : {former es : List Entry} (i : ℕ) → i ≤ length rs → length rs ≤ i → Front (entries a.count) former es (i * 2 ^ a.count)
        → es ≡ entries a.count ++ drop (length rs * 2 ^ a.count) former
    fill_all {former} {es} i le ge f =
        front_all es (length rs * 2 ^ a.count) (length_entries a.count ∙ ap (λ (l : List Pair). length l * 2 ^ a.count) (sym is))
        (subst (Front (entries a.count) former es) (ap (λ (x : ℕ). x * 2 ^ a.count) (let e : i ≡ length rs = omega arith in e)) f)

    pub entries_room : (long : ℕ) → most_states a.count * 2 ^ a.count ≤ long → length rs * 2 ^ a.count ≤ long
    entries_room long h = omega (arith, mul-le (length rs) (2 ^ a.count) (most_states a.count) (2 ^ a.count) few_states (omega arith))
