-- How runs of calls that touch some names alone go on.
use Rattle.std.proofs.Common.{◌≡◌, ◌≢◌, inl, inr, ⊎_elim, refl, sym, ap, ◌∙◌, subst, arith}
use Rattle.udt_disk.specs.Crash.{Image, NoMore}
use Rattle.udt_disk.specs.Folder.{OthersStay, FolderElapses}
use Rattle.udt_disk.specs.Touches.{Touches}
use Rattle.udt_disk.specs.declared.name.FileName.{FileName}
use Rattle.udt_disk.specs.declared.disk.Disk.{Ghosts}
use Rattle.udt_disk.proofs.Names.{same_or_other}

module _ {D F : Type 0} (d : Ghosts D F) where
  -- no call touches nothing
  pub touches_nothing : (IsTouched : FileName → Type 0) (disk : D) → Touches d IsTouched disk disk
  touches_nothing IsTouched disk = record {
    same = λ n free. refl;
    no_more = λ n c free left. left;
    later = omega arith;
    nothing_else = λ t n c le free left. inl left;
    keeps = λ t n c le left. left;
    told = refl;
    model = refl;
  }

  -- one run after another
  pub touches_then : (IsTouched : FileName → Type 0) (old mid new : D) → Touches d IsTouched old mid → Touches d IsTouched mid new → Touches d IsTouched old new
  touches_then IsTouched old mid new first second = record {
    same = λ n free. second.same n free ∙ first.same n free;
    no_more = λ n c free left. first.no_more n c free (second.no_more n c free left);
    later = omega (arith, first.later, second.later);
    nothing_else = λ t n c le free left. ⊎_elim (λ past. first.nothing_else t n c le free past) (λ now. inr (first.no_more n c free now)) (second.nothing_else t n c (omega (arith, le, first.later)) free left);
    keeps = λ t n c le left. second.keeps t n c (omega (arith, le, first.later)) (first.keeps t n c le left);
    told = second.told ∙ first.told;
    model = second.model ∙ first.model;
  }

  -- the same with more names
  pub touches_more : (IsTouched IsTouchedToo : FileName → Type 0) (old new : D) → ((n : FileName) → IsTouched n → IsTouchedToo n) → Touches d IsTouched old new → Touches d IsTouchedToo old new
  touches_more IsTouched IsTouchedToo old new more run = record {
    same = λ n free. run.same n (λ is. free (more n is));
    no_more = λ n c free left. run.no_more n c (λ is. free (more n is)) left;
    later = run.later;
    nothing_else = λ t n c le free left. run.nothing_else t n c le (λ is. free (more n is)) left;
    keeps = run.keeps;
    told = run.told;
    model = run.model;
  }

  -- one call of a folder
  pub touches_one : (Bounded : FileName → Type 0) (touched : FileName) (old new : D) → ((n : FileName) → n ≢ touched → Bounded n) → OthersStay touched (d.stands old) (d.stands new) (d.may_leave old) (d.may_leave new)
      → FolderElapses Bounded (d.moment old) (d.moment new) (d.left_since old) (d.left_since new) (d.may_leave new) → d.is_told new ≡ d.is_told old → d.keeps_model new ≡ d.keeps_model old → Touches d (λ n. n ≡ touched) old new
  touches_one Bounded touched old new bounded others time told model = record {
    same = others.same;
    no_more = λ n c free left. others.no_more n c free left;
    later = time.later;
    nothing_else = λ t n c le free left. ⊎_elim inl (λ now. inr (others.no_more n c free now)) (time.nothing_else t n c le (bounded n free) left);
    keeps = time.keeps;
    told = told;
    model = model;
  }

  -- a call that gave no file and made nothing
  pub touches_none : (Bounded : FileName → Type 0) (touched : FileName) (old new : D) → ((n : FileName) → Bounded n) → d.stands new touched ≡ d.stands old touched → NoMore (d.may_leave old touched) (d.may_leave new touched) → OthersStay touched (d.stands old) (d.stands new) (d.may_leave old) (d.may_leave new)
      → FolderElapses Bounded (d.moment old) (d.moment new) (d.left_since old) (d.left_since new) (d.may_leave new) → d.is_told new ≡ d.is_told old → d.keeps_model new ≡ d.keeps_model old → Touches d (λ n. ⊥) old new
  touches_none Bounded touched old new bounded stays stays_crash others time told model =
      let no_more : (n : FileName) (c : Image) → d.may_leave new n c → d.may_leave old n c = λ n c left. ⊎_elim
      (λ is. subst (λ (m : FileName). d.may_leave old m c) (sym is) (stays_crash c (subst (λ (m : FileName). d.may_leave new m c) is left)))
      (λ apart. others.no_more n c apart left) (same_or_other touched n) in
      record {
        same = λ n free. ⊎_elim (λ is. ap (d.stands new) is ∙ stays ∙ ap (d.stands old) (sym is)) (others.same n) (same_or_other touched n);
        no_more = λ n c free left. no_more n c left;
        later = time.later;
        nothing_else = λ t n c le free left. ⊎_elim inl (λ now. inr (no_more n c now)) (time.nothing_else t n c le (bounded n) left);
        keeps = time.keeps;
        told = told;
        model = model;
      }
