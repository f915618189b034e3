-- Every pile of turnings keeps the laws, and a pile upside down undoes a pile.
use Rattle.std.proofs.Common.{◌≡◌, ℕ, ◌-◌, ◌<◌, List, [], ◌∷◌, ◌++◌, reverse, sym, refl, ap, ◌∙◌, subst, ap₂}
use Rattle.std.proofs.lemmas.List.{reverse-append}
use Rattle.grid.specs.Grids.{grid_side, grid_size}
use Rattle.numbering.specs.Faces.{FaceToFace}
use Rattle.numbering.specs.Meaning.{Meaning, Lawful, size}
use Rattle.numbering.specs.Piles.{Turning, Reverse, MirrorOn, ExchangeOf, turn, piled, Same, Undone}
use Rattle.numbering.specs.Turnings.{turned, mirror_cell, exchange_cell}
use Rattle.numbering.specs.Exchanges.{exchange_turns, exchange_carries}
use Rattle.numbering.specs.Mirrors.{mirror_turns, mirror_carries}
use Rattle.numbering.specs.Reversals.{complement, reversed_onekey, reversed_nesting, reversed_joined}
use Rattle.numbering.specs.Turned.{Turns, turned_onekey, turned_nesting, turned_joined}

turned_lawful : (m : Meaning) (f : List ℕ → List ℕ) → Lawful m → Turns m f → Lawful (turned f m)
turned_lawful m f law t =
    record { limits = law.limits; one_key = turned_onekey m law.one_key f t; nesting = turned_nesting m law.one_key f t law.nesting }

turn_lawful : (t : Turning) (m : Meaning) → Lawful m → Lawful (turn t m)
turn_lawful Reverse m law = record { limits = law.limits; one_key = reversed_onekey m law.one_key; nesting = reversed_nesting m law.nesting }
turn_lawful (MirrorOn axis) m law = turned_lawful m _ law (mirror_turns m (axis - 1))
turn_lawful (ExchangeOf first second) m law = turned_lawful m _ law (exchange_turns m (first - 1) (second - 1))

pub piled_lawful : (m : Meaning) → Lawful m → (ts : List Turning) → Lawful (piled ts m)
piled_lawful m law [] = law
piled_lawful m law (t ∷ ts) = turn_lawful t (piled ts m) (piled_lawful m law ts)

turn_joined : (t : Turning) (m : Meaning) → Lawful m → FaceToFace m → FaceToFace (turn t m)
turn_joined Reverse m law joined = reversed_joined m joined
turn_joined (MirrorOn axis) m law joined = turned_joined m law.one_key _ (mirror_turns m (axis - 1)) _ (mirror_carries m (axis - 1)) joined
turn_joined (ExchangeOf first second) m law joined =
    let i = first - 1 in
    let j = second - 1 in
    turned_joined m law.one_key _ (exchange_turns m i j) _ (exchange_carries m i j) joined

pub piled_joined : (m : Meaning) → Lawful m → FaceToFace m → (ts : List Turning) → FaceToFace (piled ts m)
piled_joined m law joined [] = joined
piled_joined m law joined (t ∷ ts) = turn_joined t (piled ts m) (piled_lawful m law ts) (piled_joined m law joined ts)

-- the same turning twice
turned_twice : (m : Meaning) (f : List ℕ → List ℕ) → Lawful m → Turns m f → Same (turned f (turned f m)) m
turned_twice m f law t = record { axes = refl; order = refl; cell = λ c h. t.twice (m.cell c) (law.one_key.inside c h) }

turn_twice : (t : Turning) (m : Meaning) → Lawful m → Same (turn t (turn t m)) m
turn_twice Reverse m law = record { axes = refl; order = refl; cell = λ c h. ap m.cell (complement (size m) c h).1 }
turn_twice (MirrorOn axis) m law = turned_twice m _ law (mirror_turns m (axis - 1))
turn_twice (ExchangeOf first second) m law = turned_twice m _ law (exchange_turns m (first - 1) (second - 1))

same_size : (m o : Meaning) → Same m o → size m ≡ size o
same_size m o s = ap₂ grid_size s.axes s.order

same_trans : (m o p : Meaning) → Same m o → Same o p → Same m p
same_trans m o p s t =
    record {
      axes = s.axes ∙ t.axes;
      order = s.order ∙ t.order;
      cell = λ c h. s.cell c h ∙ t.cell c (subst (λ (n : ℕ). c < n) (same_size m o s) h);
    }

-- a turning over two such meanings
turn_same : (t : Turning) (m o : Meaning) → Same m o → Same (turn t m) (turn t o)
turn_same Reverse m o s =
    record {
      axes = s.axes;
      order = s.order;
      cell = λ c h. s.cell (size m - 1 - c) (complement (size m) c h).0 ∙ ap (λ n. o.cell (n - 1 - c)) (same_size m o s);
    }
turn_same (MirrorOn axis) m o s =
    record {
      axes = s.axes;
      order = s.order;
      cell = λ c h. ap₂ (λ k v. mirror_cell (grid_side k) (axis - 1) v) s.order (s.cell c h);
    }
turn_same (ExchangeOf first second) m o s =
    record { axes = s.axes; order = s.order; cell = λ c h. ap (exchange_cell (first - 1) (second - 1)) (s.cell c h) }

piled_same : (ts : List Turning) (m o : Meaning) → Same m o → Same (piled ts m) (piled ts o)
piled_same [] m o s = s
piled_same (t ∷ ts) m o s = turn_same t (piled ts m) (piled ts o) (piled_same ts m o s)

piled_append : (ts us : List Turning) (m : Meaning) → piled (ts ++ us) m ≡ piled ts (piled us m)
piled_append [] us m = refl
piled_append (t ∷ ts) us m = ap (turn t) (piled_append ts us m)

pub undone : (m : Meaning) → Lawful m → (ts : List Turning) → Undone m ts
undone m law [] = record { axes = refl; order = refl; cell = λ c h. refl }
undone m law (t ∷ ts) =
    let below = piled ts m in
    let inner = piled_same (reverse ts) (turn t (turn t below)) below (turn_twice t below (piled_lawful m law ts)) in
    subst (λ (p : Meaning). Same p m) (sym (ap (λ us. piled us (turn t below)) (reverse-append (t ∷ []) ts) ∙ piled_append (reverse ts) (t ∷ []) (turn t below)))
    (same_trans (piled (reverse ts) (turn t (turn t below))) (piled (reverse ts) below) m inner (undone m law ts))
