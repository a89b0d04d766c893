-- Files that were drawn, and given back.
use Rattle.std.proofs.Common.{◌≡◌, ◌≢◌, ℕ, ◌+◌, ◌-◌, ◌^◌, ◌<◌, ◌≤◌, List, [], ◌∷◌, ◌++◌, refl, sym, ap, subst, ◌∙◌, arith}
use Rattle.std.specs.Prelude.{IsTrue, min, Option, Some, None}
use Rattle.udt_disk.specs.declared.file.DiskFile as file
use Rattle.udt_disk.specs.declared.name.FileName.{FileName}
use Rattle.udt_disk.specs.declared.name.FileName.TheVariants.{Table}
use Rattle.udt_disk.specs.Causes.{plus_faults, Rose}
use Rattle.super_version.specs.Jobs.{MayGive}
use Rattle.super_version.specs.declared.jobs.JobFiles.{Ghosts}
use Rattle.super_version.specs.declared.jobs.Output.{Output}
use Rattle.compaction.specs.Drawing.{StillGives, AreDrawn, AreOutputsNumbered, IsDrawn, IsOutputHeld, AreHeld}

-- ---- numbers

pub numbered_wider : {F : Type 0} (low high more : ℕ) (outs : List (Output F)) → high ≤ more → AreOutputsNumbered low high outs → AreOutputsNumbered low more outs
numbered_wider low high more [] l h = omega (arith, l, h)
numbered_wider low high more (o ∷ os) l h = (h.0, numbered_wider (o.number + 1) high more os l h.1)

numbered_last : {F : Type 0} (low high : ℕ) (outs : List (Output F)) (o : Output F) → AreOutputsNumbered low high outs → high ≤ o.number → (more : ℕ) → o.number < more → AreOutputsNumbered low more (outs ++ o ∷ [])
numbered_last low high [] o h l more m = (omega (arith, h, l), omega (arith, m))
numbered_last low high (p ∷ ps) o h l more m = (h.0, numbered_last (p.number + 1) high ps o h.1 l more m)

pub numbered_more : {F : Type 0} (low high more : ℕ) (outs : List (Output F)) (o : Output F) → AreOutputsNumbered low high outs → high ≤ o.number → o.number < more → AreOutputsNumbered low more (outs ++ o ∷ [])
numbered_more low high more outs o h l m = numbered_last low high outs o h l more m

-- the numbers of those before the last are below its number
pub numbered_front : {F : Type 0} (low high : ℕ) (outs : List (Output F)) (o : Output F) → AreOutputsNumbered low high (outs ++ o ∷ []) → AreOutputsNumbered low o.number outs × (low ≤ o.number) × (o.number < high)
numbered_front low high [] o h = let a = h.0 in let b = h.1 in (a, a, omega (arith, b))
numbered_front low high (p ∷ ps) o h =
    let r = numbered_front (p.number + 1) high ps o h.1 in
    let a = h.0 in
    let b = r.1 in
    ((a, r.0), omega (arith, a, b), r.2)

pub numbered_bounds : {F : Type 0} (low high : ℕ) (outs : List (Output F)) → AreOutputsNumbered low high outs → low ≤ high
numbered_bounds low high [] h = h
numbered_bounds low high (o ∷ os) h = let a = h.0 in let b = numbered_bounds (o.number + 1) high os h.1 in omega (arith, a, b)

-- ---- one file more

pub drawn_more : {J F : Type 0} (g : Ghosts J F) (start files next : J) (outs : List (Output F)) (o : Output F) → AreDrawn g start files outs → IsDrawn g files next o.number → AreDrawn g start next (outs ++ o ∷ [])
drawn_more g start files next [] o h d = (next, subst (λ x. IsDrawn g x next o.number) h d, refl)
drawn_more g start files next (p ∷ ps) o h d = (h.0, h.1, drawn_more g h.0 files next ps o h.2 d)

-- ---- what is held

module _ {J F : Type 0} (g : Ghosts J F) (f : file.Ghosts F) where
  -- those whose numbers are below another are held on, where that one's file is given back or drawn
  pub held_on : (old new : J) (low high : ℕ) (outs : List (Output F)) → AreOutputsNumbered low high outs → ((n : ℕ) → n < high → IsTrue (g.gave old n) → IsTrue (g.gave new n)) → AreHeld g f old outs → AreHeld g f new outs
  held_on old new low high [] n more h = tt
  held_on old new low high (o ∷ os) n more h =
      let b = numbered_bounds (o.number + 1) high os n.1 in
      (record { name = h.0.name; gave = more o.number (omega (arith, b)) h.0.gave; faults = h.0.faults }, held_on old new (o.number + 1) high os n.1 more h.1)

  pub held_more : (files : J) (outs : List (Output F)) (o : Output F) → AreHeld g f files outs → IsOutputHeld g f files o → AreHeld g f files (outs ++ o ∷ [])
  held_more files [] o h k = (k, tt)
  held_more files (p ∷ ps) o h k = (h.0, held_more files ps o h.1 k)

  pub held_last : (files : J) (outs : List (Output F)) (o : Output F) → AreHeld g f files (outs ++ o ∷ []) → AreHeld g f files outs × IsOutputHeld g f files o
  held_last files [] o h = (tt, h.0)
  held_last files (p ∷ ps) o h = let r = held_last files ps o h.1 in ((h.0, r.0), r.1)

  pub goes_on : (a b c : J) → StillGives g a b → StillGives g b c → StillGives g a c
  goes_on a b c h k =
      let l = h.still in
      let m = k.still in
      record {
        still = omega (arith, l, m);
        others = λ n lt y. k.others n (omega (arith, l, lt)) (h.others n lt y);
        told = k.told ∙ h.told;
        model = k.model ∙ h.model;
      }

  pub goes_none : (a : J) → StillGives g a a
  goes_none a = record { still = omega arith; others = λ n lt y. y; told = refl; model = refl }

module _ {J F : Type 0} (g : Ghosts J F) (f : file.Ghosts F) where
  pub gives_back : (start next end : J) → StillGives g start next → g.above end ≡ g.above next → ((n : ℕ) → n < g.above start → IsTrue (g.gave next n) → IsTrue (g.gave end n)) → g.is_told end ≡ g.is_told next → g.keeps_model end ≡ g.keeps_model next → StillGives g start end
  gives_back start next end h a o t m =
      let l = h.still in
      record {
        still = omega (arith, l, a);
        others = λ n lt y. o n lt (h.others n lt y);
        told = t ∙ h.told;
        model = m ∙ h.model;
      }

pub other_name : (a b : ℕ) (name : FileName) → name ≡ Table a → b < a → name ≢ Table b
other_name a b name e l h = let k : a ≡ b = table_is a b (sym e ∙ h) in absurd (omega (arith, l, k))
  where
    table_is : (a b : ℕ) → Table a ≡ Table b → a ≡ b
    table_is a b e = cc

-- ---- faults

pub none_more : (a b n : ℕ) → n ≡ 0 → b ≡ plus_faults a n → a ≤ b → b ≡ a
none_more a b n z e l = let k : b ≡ min (a + 0) (2 ^ 64 - 1) = e ∙ ap (λ m. plus_faults a m) z in grind (arith, k, l)

pub rose_more : (a b n m : ℕ) → n ≡ 0 → Rose n m → b ≡ plus_faults a m → Rose a b
rose_more a b n m z r e = let k : plus_faults 0 1 ≤ m = subst (λ x. plus_faults x 1 ≤ m) z r in grind (arith, k, e)

pub may_fail : (halt : Option ℕ) (next number : ℕ) → MayGive halt next number → (halt ≡ None) × (next < 2 ^ 63)
may_fail None next number h = let e = h.0 in let l = h.1 in (refl, omega (arith, e, l))
may_fail (Some since) next number h = absurd h

-- ---- giving the last back

module _ {J F : Type 0} (g : Ghosts J F) (f : file.Ghosts F) (files next : J) (low high : ℕ) (front : List (Output F)) (o : Output F)
    (held : AreHeld g f files (front ++ o ∷ [])) (numbered : AreOutputsNumbered low high (front ++ o ∷ []))
    (others : (n : ℕ) → f.name o.file ≢ Table n → IsTrue (g.gave files n) → IsTrue (g.gave next n))
  where
    numbers : AreOutputsNumbered low o.number front × (low ≤ o.number) × (o.number < high)
    numbers = numbered_front low high front o numbered

    below : (n : ℕ) → n < o.number → IsTrue (g.gave files n) → IsTrue (g.gave next n)
    below n l y = others n (other_name o.number n (f.name o.file) (held_last g f files front o held).1.name l) y

    pub held_front : AreHeld g f next front
    held_front = held_on g f files next low o.number front numbers.0 below (held_last g f files front o held).0

    pub front_numbered : AreOutputsNumbered low o.number front
    front_numbered = numbers.0

    pub lower_given : (n : ℕ) → n < low → IsTrue (g.gave files n) → IsTrue (g.gave next n)
    lower_given n l y = let a = numbers.1 in below n (omega (arith, a, l)) y
