-- Each step keeps the rule of an inbox.
use Rattle.std.proofs.Common.{◌≡◌, ◌≢◌, ℕ, zero, suc, true, false, true≢false, List, [], ◌∷◌, ◌++◌, length, set, sym, refl, ap, ◌∙◌, subst, ⊎_elim, append_assoc}
use Rattle.std.proofs.lemmas.List.{append-nil}
use mathlib.Core.Option.{some, some-ne-none}
use mathlib.Core.List.{IsPrefix}
use lib.ListN.{get_elem?}
use Rattle.crossbeam_queue.specs.Fifo.{Pushes, Pops, Forks, Merges, Learns, Held}
use Rattle.crossbeam_queue.proofs.Lists.{at_set, at_snoc}
use Rattle.inbox.specs.declared.rule.Dealing.{Dealing}
use Rattle.inbox.specs.Dealings.{FitsEnd, IsFair, dealing, spent}
use Rattle.inbox.specs.Ends.{IsSettled, Posting, Taking}

not_so : false ≢ true
not_so p = true≢false (sym p)

module _ {T : Type 0} where
  at_end : (l : List (Dealing T)) (a b : Dealing T) (j : ℕ) → get_elem? l j ≢ some b → get_elem? (l ++ a ∷ []) j ≡ some b → j ≡ length l
  at_end [] a b zero n e = refl
  at_end [] a b (suc j) n e = absurd (some-ne-none b (sym e))
  at_end (x ∷ xs) a b zero n e = absurd (n e)
  at_end (x ∷ xs) a b (suc j) n e = ap suc (at_end xs a b j n e)

  abbrev All : (ℕ → Dealing T → Type 0) → List (Dealing T) → Type 0
  All F ends = (place : ℕ) (d : Dealing T) → get_elem? ends place ≡ some d → F place d

  -- a fact of each end stays where one becomes another that has it
  all_set : (F : ℕ → Dealing T → Type 0) (ends : List (Dealing T)) (place : ℕ) (e : Dealing T) → F place e
      → ((j : ℕ) (u : Dealing T) → j ≢ place → get_elem? ends j ≡ some u → F j u) → All F (set ends place e)
  all_set F ends place e mine others j u is = ⊎_elim (λ (x : (j ≡ place) × (e ≡ u)). subst (λ (y : ℕ × Dealing T). F y.0 y.1) (λ i. (sym x.0 i, x.1 i)) mine)
      (λ (x : (j ≢ place) × (get_elem? ends j ≡ some u)). others j u x.0 x.1) (at_set ends place j e u is)

  none_told : (put : List T) → IsPrefix [] put
  none_told put = (put, refl)

  pub begins : IsFair {T = T} [] (dealing true true [] [] [] ∷ [])
  begins = record {
    poster = 0;
    taker = 0;
    put = [];
    taken = [];
    balance = refl;
    fit = all_set (FitsEnd 0 0 [] []) (dealing true true [] [] [] ∷ []) 0 (dealing true true [] [] []) record { posts = λ _. (refl, refl); takes = λ _. (refl, refl); told = none_told [] }
        (λ j u other e. absurd (other (at_end [] _ u j (λ x. some-ne-none u (sym x)) e)));
  }

  pub posts : (n place : ℕ) (d : Dealing T) (x : T) → d.posts ≡ true → Pushes IsFair n place d x (λ e. e ≡ dealing d.posts d.takes (d.put ++ x ∷ []) d.taken d.told)
  posts n place d x may items ends room h at = let e : Dealing T = dealing d.posts d.takes (d.put ++ x ∷ []) d.taken d.told in let mine = h.fit place d at in let put = h.put ++ x ∷ [] in
      let longer : (told : List T) → IsPrefix told h.put → IsPrefix told put = λ told p. (p.0 ++ x ∷ [], sym (append_assoc told p.0 (x ∷ [])) ∙ ap (λ l. l ++ x ∷ []) p.1) in (
        e,
        record {
          poster = h.poster;
          taker = h.taker;
          put = put;
          taken = h.taken;
          balance = ap (λ l. l ++ x ∷ []) h.balance ∙ append_assoc h.taken items (x ∷ []);
          fit = all_set (FitsEnd h.poster h.taker put h.taken) ends place e
              record { posts = λ _. ((mine.posts may).0, ap (λ l. l ++ x ∷ []) (mine.posts may).1); takes = mine.takes; told = longer d.told mine.told }
              (λ j u other is. record { posts = λ p. absurd (other (((h.fit j u is).posts p).0 ∙ sym (mine.posts may).0)); takes = (h.fit j u is).takes; told = longer u.told (h.fit j u is).told });
        },
        refl,
      )

  pub takes : (place : ℕ) (d : Dealing T) → d.takes ≡ true → Pops IsFair place d (λ x e. e ≡ dealing d.posts d.takes d.put (d.taken ++ x ∷ []) d.told)
  takes place d may x items ends h at = let e : Dealing T = dealing d.posts d.takes d.put (d.taken ++ x ∷ []) d.told in let mine = h.fit place d at in let taken = h.taken ++ x ∷ [] in (
    e,
    record {
      poster = h.poster;
      taker = h.taker;
      put = h.put;
      taken = taken;
      balance = h.balance ∙ sym (append_assoc h.taken (x ∷ []) items);
      fit = all_set (FitsEnd h.poster h.taker h.put taken) ends place e
          record { posts = mine.posts; takes = λ _. ((mine.takes may).0, ap (λ l. l ++ x ∷ []) (mine.takes may).1); told = mine.told }
          (λ j u other is. record { posts = (h.fit j u is).posts; takes = λ p. absurd (other (((h.fit j u is).takes p).0 ∙ sym (mine.takes may).0)); told = (h.fit j u is).told });
    },
    refl,
  )

  -- the end that has both rights gives one away
  pub parts : (place : ℕ) (d : Dealing T) → d ≡ dealing true true [] [] [] → Forks IsFair place d (dealing true false [] [] []) (dealing false true [] [] [])
  parts place d is items ends h at = let l : Dealing T = dealing true false [] [] [] in let r : Dealing T = dealing false true [] [] [] in let mine = h.fit place d at in
      let may_post : d.posts ≡ true = ap (λ (y : Dealing T). y.posts) is in let may_take : d.takes ≡ true = ap (λ (y : Dealing T). y.takes) is in
      let put : [] ≡ h.put = sym (ap (λ (y : Dealing T). y.put) is) ∙ (mine.posts may_post).1 in let taken : [] ≡ h.taken = sym (ap (λ (y : Dealing T). y.taken) is) ∙ (mine.takes may_take).1 in
      let now : List (Dealing T) = set ends place l in
      let Old : ℕ → Dealing T → Type 0 = λ j u. (u.posts ≡ true → (j ≡ h.poster) × (u.put ≡ h.put)) × (u.takes ≢ true) × IsPrefix u.told h.put in
      let old : All Old now = all_set Old ends place l ((λ _. ((mine.posts may_post).0, put)), not_so, none_told h.put)
      (λ j u other e. ((h.fit j u e).posts, (λ p. other (((h.fit j u e).takes p).0 ∙ sym (mine.takes may_take).0)), (h.fit j u e).told)) in
      record {
        poster = h.poster;
        taker = length now;
        put = h.put;
        taken = h.taken;
        balance = h.balance;
        fit = λ j u e. ⊎_elim (λ x. record { posts = (old j u x).0; takes = λ p. absurd ((old j u x).1 p); told = (old j u x).2 })
            (λ (same : r ≡ u). record {
              posts = λ p. absurd (not_so (ap (λ (y : Dealing T). y.posts) same ∙ p));
              takes = λ p. (at_end now r u j (λ x. (old j u x).1 p) e, ap (λ (y : Dealing T). y.taken) (sym same) ∙ taken);
              told = subst (λ (y : Dealing T). IsPrefix y.told h.put) same (none_told h.put);
            }) (at_snoc now r u j e);
      }

  -- what was posted is told
  pub tells : (place : ℕ) (d : Dealing T) → d.posts ≡ true → Forks IsFair place d d (dealing false false [] [] d.put)
  tells place d may items ends h at = let r : Dealing T = dealing false false [] [] d.put in let mine = h.fit place d at in let now : List (Dealing T) = set ends place d in
      let old : All (FitsEnd h.poster h.taker h.put h.taken) now = all_set (FitsEnd h.poster h.taker h.put h.taken) ends place d mine (λ j u other e. h.fit j u e) in
      record {
        poster = h.poster;
        taker = h.taker;
        put = h.put;
        taken = h.taken;
        balance = h.balance;
        fit = λ j u e. ⊎_elim (λ x. old j u x)
            (λ (same : r ≡ u). record {
              posts = λ p. absurd (not_so (ap (λ (y : Dealing T). y.posts) same ∙ p));
              takes = λ p. absurd (not_so (ap (λ (y : Dealing T). y.takes) same ∙ p));
              told = subst (λ (y : Dealing T). IsPrefix y.told h.put) same ([], append-nil d.put ∙ (mine.posts may).1);
            }) (at_snoc now r u j e);
      }

  -- what was taken is told
  pub gives_receipt : (place : ℕ) (d : Dealing T) → d.takes ≡ true → Forks IsFair place d d (dealing false false [] [] d.taken)
  gives_receipt place d may items ends h at = let r : Dealing T = dealing false false [] [] d.taken in let mine = h.fit place d at in let now : List (Dealing T) = set ends place d in
      let old : All (FitsEnd h.poster h.taker h.put h.taken) now = all_set (FitsEnd h.poster h.taker h.put h.taken) ends place d mine (λ j u other e. h.fit j u e) in
      record {
        poster = h.poster;
        taker = h.taker;
        put = h.put;
        taken = h.taken;
        balance = h.balance;
        fit = λ j u e. ⊎_elim (λ x. old j u x)
            (λ (same : r ≡ u). record {
              posts = λ p. absurd (not_so (ap (λ (y : Dealing T). y.posts) same ∙ p));
              takes = λ p. absurd (not_so (ap (λ (y : Dealing T). y.takes) same ∙ p));
              told = subst (λ (y : Dealing T). IsPrefix y.told h.put) same (items, ap (λ l. l ++ items) (mine.takes may).1 ∙ sym h.balance);
            }) (at_snoc now r u j e);
      }

  -- what was told reaches the end that takes
  pub hears : (place : ℕ) (d : Dealing T) (other : ℕ) (e : Dealing T) → Merges IsFair place d other e (dealing d.posts d.takes d.put d.taken e.told) spent
  hears place d other e items ends h at apart at' = let both : Dealing T = dealing d.posts d.takes d.put d.taken e.told in let mine = h.fit place d at in
      let now : List (Dealing T) = set ends place both in
      let was : get_elem? ends other ≡ some e = ⊎_elim (λ (x : (other ≡ place) × (both ≡ e)). absurd (apart x.0)) (λ x. x.1) (at_set ends place other both e at') in
      let F : ℕ → Dealing T → Type 0 = FitsEnd h.poster h.taker h.put h.taken in
      let heard : All F now = all_set F ends place both record { posts = mine.posts; takes = mine.takes; told = (h.fit other e was).told } (λ j u _ is. h.fit j u is) in
      record {
        poster = h.poster;
        taker = h.taker;
        put = h.put;
        taken = h.taken;
        balance = h.balance;
        fit = all_set F now other spent record { posts = λ p. absurd (not_so p); takes = λ p. absurd (not_so p); told = none_told h.put } (λ j u _ is. heard j u is);
      }

  -- both rights come together
  pub settles : (place : ℕ) (d : Dealing T) (other : ℕ) (e : Dealing T) → d.posts ≡ true → e.takes ≡ true → Merges IsFair place d other e (dealing true true d.put e.taken e.told) spent
  settles place d other e may_post may_take items ends h at apart at' = let both : Dealing T = dealing true true d.put e.taken e.told in let mine = h.fit place d at in
      let now : List (Dealing T) = set ends place both in
      let was : get_elem? ends other ≡ some e = ⊎_elim (λ (x : (other ≡ place) × (both ≡ e)). absurd (apart x.0)) (λ x. x.1) (at_set ends place other both e at') in
      let theirs = h.fit other e was in
      let F : ℕ → Dealing T → Type 0 = FitsEnd h.poster place h.put h.taken in
      let Now : ℕ → Dealing T → Type 0 = λ j u. j ≢ other → F j u in
      let joined : All Now now = all_set Now ends place both (λ _. record { posts = λ _. mine.posts may_post; takes = λ _. (refl, (theirs.takes may_take).1); told = theirs.told })
      (λ j u _ is away. record { posts = (h.fit j u is).posts; takes = λ p. absurd (away (((h.fit j u is).takes p).0 ∙ sym (theirs.takes may_take).0)); told = (h.fit j u is).told }) in
      record {
        poster = h.poster;
        taker = place;
        put = h.put;
        taken = h.taken;
        balance = h.balance;
        fit = all_set F now other spent record { posts = λ p. absurd (not_so p); takes = λ p. absurd (not_so p); told = none_told h.put } (λ j u away is. joined j u is away);
      }

  -- with both rights one knows what is left
  pub leaves : (place : ℕ) (d : Dealing T) → d.posts ≡ true → d.takes ≡ true → Learns IsFair place d (λ items. d.put ≡ d.taken ++ items)
  leaves place d may_post may_take items ends h at = let mine = h.fit place d at in (mine.posts may_post).1 ∙ h.balance ∙ ap (λ l. l ++ items) (sym (mine.takes may_take).1)

  -- what was told was taken or is still there
  pub reaches : (place : ℕ) (d : Dealing T) → d.takes ≡ true → Learns IsFair place d (λ items. IsPrefix d.told (d.taken ++ items))
  reaches place d may items ends h at = let mine = h.fit place d at in (mine.told.0, mine.told.1 ∙ h.balance ∙ ap (λ l. l ++ items) (sym (mine.takes may).1))

  -- what both ends together learn of what is left
  pub settled : (d : Dealing T) (put taken told : List T) (p : Posting T) (t : Taking T) (count : ℕ) → d ≡ dealing true true put taken told → put ≡ p.put → taken ≡ t.taken
      → Held count (λ (items : List T). d.put ≡ d.taken ++ items) → IsSettled p.put t.taken count
  settled d put taken told p t count is put_is taken_is held =
      let whole : p.put ≡ t.taken ++ held.0 = sym (ap (λ (y : Dealing T). y.put) is ∙ put_is) ∙ held.2 ∙ ap (λ l. l ++ held.0) (ap (λ (y : Dealing T). y.taken) is ∙ taken_is) in
      record { left = held.0; whole = whole; counted = held.1 }
