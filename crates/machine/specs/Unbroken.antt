-- A machine that keeps the rules gives an unbroken numbering, at every order and from every state.
use Rattle.std.specs.Prelude.{◌≡◌, ℕ, suc, ◌+◌, ◌-◌, ◌<◌, ◌⊎◌, slice_index}
use Rattle.std.proofs.Common.{sym, ◌∙◌, subst, subst₂, inl, inr, add-one, arith}
use Rattle.grid.specs.declared.step.Direction.{Direction}
use Rattle.grid.specs.declared.step.Direction.TheVariants.{Up, Down}
use Rattle.numbering.specs.Faces.{Moves, Leads, ShareFace}
use Rattle.machine.specs.Machines.{Machine, keys, coord, Exact}
use Rattle.machine.specs.Means.{cell_from, AlwaysUnbroken}
use Rattle.machine.specs.Rules.{Rules}
use Rattle.machine.specs.Points.{two_pos}
use Rattle.machine.specs.Crossing.{across}
use Rattle.machine.specs.Faced.{Faced, faced}
use Rattle.machine.specs.Listed.{listed_at}

module _ {S : Type 0} (M : Machine 2 S) (k : ℕ) (s : S) (c : ℕ) (f : Faced M k s c) where
  at : (key i : ℕ) → i < M.n → slice_index (cell_from M k s key) i ≡ coord M k s key i
  at key i h = listed_at M.n (coord M k s key) i h

  leads : (d : Direction) → Moves d (coord M k s c f.place) (coord M k s (suc c) f.place) → Leads M.n (record { axis = f.place + 1; direction = d }) (cell_from M k s c) (cell_from M k s (suc c))
  leads d m =
      record {
        first = omega arith;
        last = omega (arith, f.within);
        moves =
            subst₂ (λ (x y : ℕ). Moves d x y) (sym (at c i li)) (sym (at (suc c) i li))
            (subst (λ (j : ℕ). Moves d (coord M k s c j) (coord M k s (suc c) j)) (sym back) m);
        others = λ j h ne. at c j h ∙ f.others j h (λ e. ne (e ∙ sym back)) ∙ sym (at (suc c) j h);
      }
    where
      i : ℕ
      i = f.place + 1 - 1

      back : i ≡ f.place
      back = omega arith

      li : i < M.n
      li = omega (arith, f.within)

  share : (coord M k s (suc c) f.place ≡ suc (coord M k s c f.place)) ⊎ (coord M k s c f.place ≡ suc (coord M k s (suc c) f.place))
      → ShareFace M.n (cell_from M k s c) (cell_from M k s (suc c))
  share (inl e) = (record { axis = f.place + 1; direction = Up }, leads Up (omega arith))
  share (inr e) = (record { axis = f.place + 1; direction = Down }, leads Down (omega arith))

pub always_unbroken : {S : Type 0} (M : Machine 2 S) → Exact M → Rules M → AlwaysUnbroken M
always_unbroken M exact rules k s l c h =
    subst (λ (x : ℕ). ShareFace M.n (cell_from M k s c) (cell_from M k s x)) (sym (add-one c))
    (share M k s c f f.moves)
  where
    f : Faced M k s c
    f = faced two_pos M exact k (λ j _. across two_pos M exact rules j) s l c (subst (λ (x : ℕ). x < keys M k) (add-one c) h)
