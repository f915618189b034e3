-- Two lists whose first places are consecutive cells.
use Rattle.std.proofs.Common.{◌≡◌, ℕ, ◌+◌, ◌<◌, List, length, take, ap, ◌∙◌, arith}
use Rattle.numbering.specs.Faces.{ShareFace, FaceToFace}
use Rattle.numbering.specs.Meaning.{Meaning, OneKey, size}

pub consecutive : (m : Meaning) → FaceToFace m → OneKey m → (c : ℕ) → c + 1 < size m → {n : ℕ} → n ≡ m.axes → (u v : List ℕ)
    → take m.axes u ≡ m.cell c → take m.axes v ≡ m.cell (c + 1) → ShareFace (length (take n u)) (take n u) (take n v)
consecutive m faces law c h e u v here there =
    let long : length (take m.axes u) ≡ m.axes = ap length here ∙ (law.inside c (omega arith)).long in
    rw (e, long, here, there) (faces c h)
