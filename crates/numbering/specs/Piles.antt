-- Piles of turnings over a meaning.
--
-- Turning      — reversal, a mirror on an axis, an exchange of two axes
-- turn, piled  — one turning over a meaning; a list of them, the first on top
-- Same         — two meanings have the same grid, and each key the same cell
-- Undone       — a pile with the same pile upside down over it means what is below it
use Rattle.std.specs.Prelude.{◌≡◌, ℕ, ◌<◌, List, [], ◌∷◌, reverse}
use Rattle.numbering.specs.Meaning.{Meaning, size}
use Rattle.numbering.specs.Turnings.{reversed, mirrored, exchanged}

pub data Turning : Type 0 where
  Reverse : Turning
  MirrorOn : ℕ → Turning
  ExchangeOf : ℕ → ℕ → Turning

abbrev pub turn : Turning → Meaning → Meaning
turn Reverse m = reversed m
turn (MirrorOn axis) m = mirrored axis m
turn (ExchangeOf first second) m = exchanged first second m

abbrev pub piled : List Turning → Meaning → Meaning
piled [] m = m
piled (t ∷ ts) m = turn t (piled ts m)

pub record Same (m o : Meaning) : Type 0 where
  pub axes : m.axes ≡ o.axes
  pub order : m.order ≡ o.order
  pub cell : (c : ℕ) → c < size m → m.cell c ≡ o.cell c

abbrev pub Undone : Meaning → List Turning → Type 0
Undone m ts = Same (piled (reverse ts) (piled ts m)) m
