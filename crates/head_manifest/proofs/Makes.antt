-- Making a store, step by step.
use Rattle.std.proofs.Common.{◌≡◌, ◌≢◌, ◌⊎◌, inl, inr, ⊎_elim, ℕ, ◌+◌, List, [], ◌∷◌, ◌++◌, length, refl, sym, ap, ◌∙◌, subst, arith}
use Rattle.std.specs.Prelude.{IsTrue, Some, None}
use Rattle.udt_disk.specs.Crash.{Image, Only}
use Rattle.udt_disk.specs.Joint.{Folder, Joint, IsHeld, IsFree, LeavesNow, Ran}
use Rattle.udt_disk.specs.Joint.Ran.{rests}
use Rattle.udt_disk.specs.Touches.{Touches}
use Rattle.udt_disk.specs.declared.name.FileName.{FileName}
use Rattle.udt_disk.specs.declared.name.FileName.TheVariants.{Manifest0, Manifest1, Current, Made}
use Rattle.udt_disk.specs.declared.file.DiskFile as file
use Rattle.udt_disk.specs.declared.disk.Disk as disk
use Rattle.udt_disk.specs.Moments.{holding, alone, AsAtBut, OnlyReads, OnlyTouches}
use Rattle.udt_disk.proofs.Joints.{ran_on}
use Rattle.udt_disk.proofs.Moments.{Giving, only_then, reads_more, ran_only, stands_all, leaves_all, disk_step, return_step}
use Rattle.udt_disk.proofs.TouchLemmas.{touches_nothing, touches_more, touches_then}
use Rattle.udt_model.specs.declared.line.FamilyHead.{FamilyHead}
use Rattle.std.specs.List.{All}
use Rattle.std.proofs.lemmas.List.{drop_all, append-nil}
use Rattle.udt_disk.specs.Bytes.{overwritten}
use Rattle.gate_log.specs.Frames.{IsLog, frame, framed, staged, with_frame}
use Rattle.head_manifest.specs.Heads.{AreNew, IsHead, IsNamed, head_text}
use Rattle.head_manifest.specs.Files.{HasFold}
use Rattle.head_manifest.specs.Folds.{fold_of}
use Rattle.head_manifest.specs.Folders.{Means, chosen_by}
use Rattle.head_manifest.specs.Folders.Meaning.{no_store, store}
use Rattle.head_manifest.specs.Making.{IsEarlyName, IsStoreName, IsReadName, IsUnmade, IsNoneOrAll}

made_isn't_current : Made ≢ Current
made_isn't_current is = cc

made_isn't_first : Made ≢ Manifest0
made_isn't_first is = cc

current_isn't_made : Current ≢ Made
current_isn't_made is = cc

pub current_isn't_first : Current ≢ Manifest0
current_isn't_first is = cc

first_isn't_made : Manifest0 ≢ Made
first_isn't_made is = cc

first_isn't_current : Manifest0 ≢ Current
first_isn't_current is = cc

some_isn't_none : (bytes : List ℕ) → Some bytes ≢ None
some_isn't_none bytes is = cc

-- a folder with this manifest has the store, or none where `MADE` is missing
pub none_or_all : (folder : Folder) (families : List FamilyHead) (made : Image) → folder Made ≡ made → chosen_by (folder Current) ≡ Manifest0 → HasFold (folder Manifest0) (fold_of families) → Means folder no_store ⊎ Means folder (store (fold_of families))
none_or_all folder families None is current first = inl is
none_or_all folder families (Some bytes) is current first =
    inr ((λ none. some_isn't_none bytes (sym is ∙ none)), subst (λ (n : FileName). HasFold (folder n) (fold_of families)) (sym current) first)

-- ---- there is still no store, and none comes back

-- where files were only looked at
pub unmade_read : {D F : Type 0} (d : disk.Ghosts D F) (f : file.Ghosts F) (old mid : D) → IsUnmade d old → OnlyReads d f (alone old) (alone mid) → IsUnmade d mid
unmade_read d f old mid unmade look = record {
  told = subst IsTrue (sym look.told) unmade.told;
  made = λ c left. unmade.made c (leaves_all d f old mid look Made c left);
  current = λ missing c left. unmade.current (sym (stands_all d f old mid look unmade.told Current) ∙ missing) c (leaves_all d f old mid look Current c left);
}

-- where `CURRENT` alone was touched, and stands
pub unmade_with_current : {D F : Type 0} (d : disk.Ghosts D F) (old new : D) (bytes : List ℕ) → IsUnmade d old → Touches d (λ n. n ≡ Current) old new → d.stands new Current ≡ Some bytes → IsUnmade d new
unmade_with_current d old new bytes unmade run stands = record {
  told = subst IsTrue (sym run.told) unmade.told;
  made = λ c left. unmade.made c (run.no_more Made c made_isn't_current left);
  current = λ missing c left. absurd (some_isn't_none bytes (sym stands ∙ missing));
}

-- where another file alone was touched
pub unmade_beside : {D F : Type 0} (d : disk.Ghosts D F) (touched : FileName) (old new : D) → Made ≢ touched → Current ≢ touched → IsUnmade d old → Touches d (λ n. n ≡ touched) old new → IsUnmade d new
unmade_beside d touched old new made current unmade run = record {
  told = subst IsTrue (sym run.told) unmade.told;
  made = λ c left. unmade.made c (run.no_more Made c made left);
  current = λ missing c left. unmade.current (sym (run.same Current current) ∙ missing) c (run.no_more Current c current left);
}

module _ {D F : Type 0} (d : disk.Ghosts D F) (f : file.Ghosts F) (disk_now : (x : D) (n : FileName) (c : Image) → d.left_since x (d.moment x) n c → d.may_leave x n c) (file_now : (x : F) (c : Image) → f.left_since x (f.moment x) c → f.may_leave x c)
    (families : List FamilyHead) (old : D) (unmade : IsUnmade d old) where
  -- before the first call
  pub at_rest_now : Ran d f (IsNoneOrAll d old families) (alone old) (alone old)
  at_rest_now = rests (λ folder image. record {
    store = inl (unmade.made (folder Made) (image.others Made (λ x held. absurd held)));
    others = λ n free. image.others n (λ x held. absurd held);
  })

  -- before `MADE` is touched there is no store
  early : (IsTouched : FileName → Type 0) (mid : D) → Touches d IsTouched old mid → ((n : FileName) → IsTouched n → IsEarlyName n) → (touched : FileName) → IsEarlyName touched → (folder : Folder) → AsAtBut d f (λ n. n ≡ touched) (alone mid) folder → IsNoneOrAll d old families folder
  early IsTouched mid run few touched is folder each =
      let not_made : ¬ IsEarlyName Made = λ at. ⊎_elim made_isn't_current made_isn't_first at in
      let was : (n : FileName) → ¬ IsEarlyName n → d.may_leave old n (folder n) = λ n apart. run.no_more n (folder n) (λ there. apart (few n there)) ((each n (λ same. apart (subst IsEarlyName (sym same) is))).free (λ x held. absurd held)) in
      record {
        store = inl (unmade.made (folder Made) (was Made not_made));
        others = λ n apart. was n (λ there. apart (inl there));
      }

  -- `CURRENT` is emptied
  pub first_step : (new : D) → Touches d (λ n. n ≡ Current) old new → Ran d f (IsNoneOrAll d old families) (alone old) (alone new)
  first_step new touches =
      ran_only d f (λ n. n ≡ Current) (IsNoneOrAll d old families) (alone old) (alone new) (early (λ n. ⊥) old (touches_nothing d (λ n. ⊥) old) (λ n none. absurd none) Current (inl refl)) (disk_step d f disk_now file_now [] (λ n. n ≡ Current) old new touches)

  -- the manifest is made
  pub second_step : (mid : D) (k : Joint D F) → Touches d (λ n. n ≡ Current) old mid → OnlyTouches d f (λ n. n ≡ Manifest0) (alone mid) k → Ran d f (IsNoneOrAll d old families) (alone old) k
  second_step mid k touches only =
      ran_on d f (IsNoneOrAll d old families) (alone old) (alone mid) k (first_step mid touches)
      (ran_only d f (λ n. n ≡ Manifest0) (IsNoneOrAll d old families) (alone mid) k (early (λ n. n ≡ Current) mid touches (λ n is. inl is) Manifest0 (inr refl)) only)

  module _ (mid : D) (m : F) (touches : Touches d IsEarlyName old mid) (name : f.name m ≡ Manifest0) (current : (c : Image) → d.may_leave mid Current c → chosen_by c ≡ Manifest0) (first : (c : Image) → f.may_leave m c → HasFold c (fold_of families)) where
    held_is : (x : F) → IsHeld (m ∷ []) x → m ≡ x
    held_is x held = ⊎_elim (λ is. is) (λ none. absurd none) held

    free_in : (x : D) (n : FileName) → n ≢ Manifest0 → IsFree d f (holding x (m ∷ [])) n
    free_in x n apart y held is = apart (is ∙ ap f.name (sym (held_is y held)) ∙ name)

    late : (folder : Folder) → AsAtBut d f (λ n. n ≡ Made) (holding mid (m ∷ [])) folder → IsNoneOrAll d old families folder
    late folder each = record {
      store = none_or_all folder families (folder Made) refl (current (folder Current) ((each Current current_isn't_made).free (free_in mid Current current_isn't_first))) (first (folder Manifest0) ((each Manifest0 first_isn't_made).held m (inl refl) name));
      others = λ n apart. touches.no_more n (folder n) (λ is. apart (inl is)) ((each n (λ is. apart (inr is))).free (free_in mid n (λ is. apart (inl (inr is)))));
    }

    -- `MADE` is made
    pub third_step : (k : Joint D F) → OnlyTouches d f (λ n. n ≡ Made) (holding mid (m ∷ [])) k → Ran d f (IsNoneOrAll d old families) (alone old) (holding mid (m ∷ [])) → Ran d f (IsNoneOrAll d old families) (alone old) k
    third_step k only so_far =
        ran_on d f (IsNoneOrAll d old families) (alone old) (holding mid (m ∷ [])) k so_far (ran_only d f (λ n. n ≡ Made) (IsNoneOrAll d old families) (holding mid (m ∷ [])) k late only)

    -- the manifest is given back
    pub gives_back : (last new : D) → Touches d (λ n. n ≡ Made) mid last → Giving d f last new m → f.is_told m ≡ d.is_told last → OnlyTouches d f (λ n. n ≡ Made) (holding mid (m ∷ [])) (alone new)
    gives_back last new made giving told =
        let T : FileName → Type 0 = λ n. n ≡ Made in
        only_then d f T (holding mid (m ∷ [])) (holding last (m ∷ [])) (alone new) (disk_step d f disk_now file_now (m ∷ []) T mid last made)
        (reads_more d f T (holding last (m ∷ [])) (alone new) (return_step d f disk_now file_now [] last new m giving told (λ x held. absurd held)))

    -- once `MADE` is on the disk all of the store is
    pub all_there : (new : D) → Touches d (λ n. n ≡ Made) mid new → Only [] (d.may_leave new Made) → LeavesNow d f (λ folder. Means folder (store (fold_of families))) (holding new (m ∷ []))
    all_there new made durable folder image =
        let there : folder Made ≡ Some [] = durable (folder Made) (image.others Made (free_in new Made made_isn't_first)) in
        let chosen_is : chosen_by (folder Current) ≡ Manifest0 = current (folder Current) (made.no_more Current (folder Current) current_isn't_made (image.others Current (free_in new Current current_isn't_first))) in
        let fold : HasFold (folder Manifest0) (fold_of families) = first (folder Manifest0) (subst (λ (n : FileName). f.may_leave m (folder n)) name (image.held m (inl refl))) in
        ((λ none. some_isn't_none [] (sym there ∙ none)), subst (λ (n : FileName). HasFold (folder n) (fold_of families)) (sym chosen_is) fold)

-- the head that was written is the head of these families
pub head_of : (families slice : List FamilyHead) (body items : List ℕ) → AreNew families → slice ≡ families → items ≡ head_text slice → All IsNamed slice → body ≡ items → IsHead body families
head_of families slice body items new same text named is = record {
  new = new;
  named = subst (All IsNamed) same named;
  is = is ∙ text ∙ ap head_text same;
}

-- a log of that frame alone has its fold
pub has_fold : (bytes body : List ℕ) (families : List FamilyHead) → IsLog (body ∷ []) bytes → IsHead body families → HasFold (Some bytes) (fold_of families)
has_fold bytes body families log head = (body ∷ [], log, (families, head, refl))

-- the names that were touched so far
pub early_names : {D F : Type 0} (d : disk.Ghosts D F) (old mid new : D) → Touches d (λ n. n ≡ Current) old mid → Touches d (λ n. n ≡ Manifest0) mid new → Touches d IsEarlyName old new
early_names d old mid new first second =
    touches_then d IsEarlyName old mid new (touches_more d (λ n. n ≡ Current) IsEarlyName old mid (λ n is. inl is) first) (touches_more d (λ n. n ≡ Manifest0) IsEarlyName mid new (λ n is. inr is) second)

-- the names that a reader touches
pub read_names : {D F : Type 0} (d : disk.Ghosts D F) (old mid late new : D) (name : FileName) → (name ≡ Manifest0) ⊎ (name ≡ Manifest1) → Touches d (λ n. n ≡ Made) old mid → Touches d (λ n. n ≡ Current) mid late → Touches d (λ n. n ≡ name) late new → Touches d IsReadName old new
read_names d old mid late new name either first second third =
    let read : (n : FileName) → n ≡ name → IsReadName n = λ n is. ⊎_elim (λ zero. inl (inl (inr (is ∙ zero)))) (λ one. inr (is ∙ one)) either in
    touches_then d IsReadName old mid new (touches_more d (λ n. n ≡ Made) IsReadName old mid (λ n is. inl (inr is)) first)
    (touches_then d IsReadName mid late new (touches_more d (λ n. n ≡ Current) IsReadName mid late (λ n is. inl (inl (inl is))) second) (touches_more d (λ n. n ≡ name) IsReadName late new read third))

-- a frame that is written over the closed gate of a log without frames
pub first_written : (end : ℕ) (empty bytes body : List ℕ) → end ≡ 0 → empty ≡ 90 ∷ [] → bytes ≡ with_frame empty end body → bytes ≡ framed (body ∷ []) ++ 90 ∷ []
unfolding with_frame
first_written end empty bytes body first closed written =
    written ∙ ap (λ (n : ℕ). overwritten empty n (165 ∷ staged body)) first ∙ ap (λ (l : List ℕ). overwritten l 0 (165 ∷ staged body)) closed
    ∙ ap (λ (l : List ℕ). (165 ∷ staged body) ++ l) (drop_all (0 + length (165 ∷ staged body)) (90 ∷ []) (omega arith)) ∙ append-nil (165 ∷ staged body) ∙ ap (λ (l : List ℕ). l ++ 90 ∷ []) (sym (append-nil (frame body)))
