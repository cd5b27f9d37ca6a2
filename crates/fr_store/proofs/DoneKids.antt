-- Laws of the place that is done at a turn, for proofs: what lies there then, and what is stored.
use Rattle.std.proofs.Common.{◌≡◌, ◌≢◌, ◌⊎◌, ℕ, zero, suc, ◌≤◌, Bool, true, false, [], ◌∷◌, ◌++◌, append-nil, append_assoc, inl, inr, refl, sym, ◌∙◌, ap, subst, arith}
use Rattle.std.specs.Prelude.{if◌then◌else◌}
use Rattle.fr_store.specs.Common.{ContentKind, IsClosed, IsStoredAt, Kid, Kids, MayHave, Place, Plot, Reaches, Tracker, Val, as_content, at, begun_plot, below_root, body_in, count_kids, done_at, is_begun_conversion, is_conversion, kid_at, kid_at_append, kid_done, kid_nth, kid_put_at, made_whole, put_at, there, tree_at, tree_of, tree_of_at, up, up_append, whole, whole_plot}
use Rattle.fr_store.proofs.ClosingLaws.{tree_append}
use Rattle.fr_store.proofs.OffLaws.{IsNotBeneath, beneath_or_not, closed_below, reach_put, reaches_append, stored_before, stored_beside, stored_both, stored_no_more}
use Rattle.fr_store.proofs.TurnLaws.{Over}

-- At the turn of a stored place this was put at the place that is done then: what was stored is so still, but that place, and nothing else
-- is stored.
pub record IsDone (k : Kid) (here at_place : Place) (v : Val) (new : Kid) : Type 0 where
  pub reach : Reaches at_place k
  pub tree : tree_of new ≡ whole v
  pub still : {m : ℕ} {other : Place} → IsStoredAt k m other → other ≢ here → IsStoredAt (put_at at_place new k) m other
  pub before : {m : ℕ} {other : Place} → IsStoredAt (put_at at_place new k) m other → IsStoredAt k m other
  pub no_more : {m : ℕ} → IsStoredAt (put_at at_place new k) m here → ⊥

-- a value in the stead of the place
pub done_itself : (k : Kid) (here : Place) {n : ℕ} {plot : Plot} (v : Val) → Reaches here k → kid_at here k ≡ at n true plot
    → IsClosed (body_in plot) → IsDone k here here v (there v)
done_itself k here {n} {plot} v reach is closed = record {
  reach = reach;
  tree = refl;
  still = λ {m} {other} stored ne. (stored_both here other k (there v) m reach (stored_beside here is closed stored ne)).0 stored;
  before = λ stored. stored_before here k v reach stored;
  no_more = λ stored. stored_no_more k v reach stored;
}

-- or the place above whole, where it has no other child
module _ (k : Kid) (above : Place) {slot n : ℕ} {mark : Bool} {tracker : Tracker} {kids : Kids} {plot : Plot} (v : Val)
    (reach : Reaches above k) (is : kid_at above k ≡ at slot mark (begun_plot tracker kids)) (alone : count_kids kids ≤ 1)
    (child : kid_nth 0 kids ≡ at n true plot) (closed : IsClosed (body_in plot)) where
  now : kid_at above (put_at above (at slot mark (whole_plot v)) k) ≡ at slot mark (whole_plot v)
  now = kid_put_at above (at slot mark (whole_plot v)) k reach

  -- nothing lies beneath it
  none_beneath : {m : ℕ} (j : ℕ) (way : Place) → IsStoredAt (put_at above (at slot mark (whole_plot v)) k) m (above ++ j ∷ way) → ⊥
  none_beneath j way stored =
      closed_below j way slot mark (whole_plot v) tt (ap (kid_at (j ∷ way)) (sym now)
      ∙ sym (kid_at_append above (j ∷ way) (put_at above (at slot mark (whole_plot v)) k)) ∙ stored.is)

  -- beneath the place as it was lies that child alone
  one_beneath : {m : ℕ} (j : ℕ) (way : Place) → IsStoredAt k m (above ++ j ∷ way) → j ∷ way ≡ 0 ∷ []
  one_beneath {m} zero [] stored = refl
  one_beneath {m} zero (i ∷ way) stored =
      absurd (closed_below i way n true plot closed (ap (kid_at (i ∷ way)) (sym child) ∙ ap (kid_at (0 ∷ i ∷ way)) (sym is)
      ∙ sym (kid_at_append above (0 ∷ i ∷ way) k) ∙ stored.is))
  one_beneath {m} (suc j) way stored =
      let reached = subst (Reaches (suc j ∷ way)) is (reaches_append above (suc j ∷ way) k stored.reaches).1 in
      absurd (omega (arith, reached.0, alone))

  same_slot : {m : ℕ} {other : Plot} → at slot mark (whole_plot v) ≡ at m true other → at slot mark (begun_plot tracker kids) ≡ at m true (begun_plot tracker kids)
  same_slot {m} e =
      let slots : slot ≡ m = cc in
      let marks : mark ≡ true = cc in
      ap (λ (x : ℕ). at x mark (begun_plot tracker kids)) slots ∙ ap (λ (b : Bool). at m b (begun_plot tracker kids)) marks

  whole_slot : {m : ℕ} {other : Plot} → at slot mark (begun_plot tracker kids) ≡ at m true other → at slot mark (whole_plot v) ≡ at m true (whole_plot v)
  whole_slot {m} e =
      let slots : slot ≡ m = cc in
      let marks : mark ≡ true = cc in
      ap (λ (x : ℕ). at x mark (whole_plot v)) slots ∙ ap (λ (b : Bool). at m b (whole_plot v)) marks

  pub done_above : IsDone k (above ++ 0 ∷ []) above v (at slot mark (whole_plot v))
  done_above = record {
    reach = reach;
    tree = refl;
    still = λ {m} {other} stored ne. still (beneath_or_not above other) stored ne;
    before = λ {m} {other} stored. before (beneath_or_not above other) stored;
    no_more = λ stored. none_beneath 0 [] stored;
  }
    where
      still : {m : ℕ} {other : Place} → ((way : Place) × (other ≡ above ++ way)) ⊎ IsNotBeneath above other → IsStoredAt k m other
          → other ≢ above ++ 0 ∷ [] → IsStoredAt (put_at above (at slot mark (whole_plot v)) k) m other
      still {m} {other} (inr beside) stored ne =
          (stored_both above other k (at slot mark (whole_plot v)) m reach beside).0 stored
      still {m} {other} (inl ([], e)) stored ne =
          let same : other ≡ above = e ∙ append-nil above in
          subst (IsStoredAt (put_at above (at slot mark (whole_plot v)) k) m) (sym same) (record {
            plot = whole_plot v;
            reaches = reach_put above (at slot mark (whole_plot v)) k reach;
            is = now ∙ whole_slot (sym is ∙ ap (λ (p : Place). kid_at p k) (sym same) ∙ stored.is);
          })
      still {m} {other} (inl (j ∷ way, e)) stored ne =
          absurd (ne (e ∙ ap (λ (p : Place). above ++ p) (one_beneath j way (subst (IsStoredAt k m) e stored))))

      before : {m : ℕ} {other : Place} → ((way : Place) × (other ≡ above ++ way)) ⊎ IsNotBeneath above other
          → IsStoredAt (put_at above (at slot mark (whole_plot v)) k) m other → IsStoredAt k m other
      before {m} {other} (inr beside) stored =
          (stored_both above other k (at slot mark (whole_plot v)) m reach beside).1 stored
      before {m} {other} (inl ([], e)) stored =
          let same : other ≡ above = e ∙ append-nil above in
          subst (IsStoredAt k m) (sym same) (record {
            plot = begun_plot tracker kids;
            reaches = reach;
            is =
                is ∙ same_slot (sym now
                ∙ ap (λ (p : Place). kid_at p (put_at above (at slot mark (whole_plot v)) k)) (sym same) ∙ stored.is);
          })
      before {m} {other} (inl (j ∷ way, e)) stored =
          absurd (none_beneath j way (subst (IsStoredAt (put_at above (at slot mark (whole_plot v)) k) m) e stored))

-- By what stands above.

-- a conversion has one child
alone_by : (tracker : Tracker) (count : ℕ) → is_conversion tracker ≡ true → MayHave tracker count → count ≤ 1
alone_by (as_content (ContentKind.Source conversion)) count is may = may
alone_by _ count is may = absurd (cc)

module _ {k : Kid} {here : Place} {n : ℕ} {plot : Plot} (over : Over here k n plot) where
  pub up_is : up here ≡ over.above
  up_is = ap up over.is_below ∙ up_append over.above over.i

  pub converts_is : is_begun_conversion (tree_at (up here) (tree_of k)) ≡ is_conversion over.tracker
  converts_is =
      ap (λ (p : Place). is_begun_conversion (tree_at p (tree_of k))) up_is
      ∙ ap is_begun_conversion (sym (tree_of_at over.above k) ∙ ap tree_of over.is)

  pub done_of : (v : Val) → MayHave over.tracker (count_kids over.kids) → Reaches here k → kid_at here k ≡ at n true plot
      → IsClosed (body_in plot) → IsDone k here (done_at here (tree_of k)) v (kid_done here (tree_of k) v k)
  done_of v may reach is closed = go (is_begun_conversion (tree_at (up here) (tree_of k))) refl
    where
      go : (b : Bool) → is_begun_conversion (tree_at (up here) (tree_of k)) ≡ b
          → IsDone k here (if b then up here else here) v (if b then made_whole v (kid_at (up here) k) else there v)
      go false e = done_itself k here v reach is closed
      go true e =
          let alone = alone_by over.tracker (count_kids over.kids) (sym converts_is ∙ e) may in
          let first : over.i ≡ 0 = omega (arith, over.within, alone) in
          let child : kid_nth 0 over.kids ≡ at n true plot = ap (λ (j : ℕ). kid_nth j over.kids) (sym first) ∙ over.child in
          let way : over.above ++ 0 ∷ [] ≡ here = ap (λ (j : ℕ). over.above ++ j ∷ []) (sym first) ∙ sym over.is_below in
          let kid : at over.slot over.mark (whole_plot v) ≡ made_whole v (kid_at (up here) k)
          = sym (ap (λ (p : Place). made_whole v (kid_at p k)) up_is ∙ ap (made_whole v) over.is) in
          subst (λ (x : Kid). IsDone k here (up here) v x) kid
          (subst (λ (p : Place). IsDone k here p v (at over.slot over.mark (whole_plot v))) (sym up_is)
          (subst (λ (p : Place). IsDone k p over.above v (at over.slot over.mark (whole_plot v))) way
          (done_above k over.above v over.reach over.is alone child closed)))

-- Within a part.

up_within : (c here : Place) → here ≢ [] → up (c ++ here) ≡ c ++ up here
up_within c [] low = absurd (low refl)
up_within c (i ∷ here) low =
    let two = below_root (i ∷ here) refl in
    ap (λ (p : Place). up (c ++ p)) two.2 ∙ ap up (sym (append_assoc c two.0 (two.1 ∷ []))) ∙ up_append (c ++ two.0) two.1
    ∙ ap (λ (p : Place). c ++ p) (sym (ap up two.2 ∙ up_append two.0 two.1))

module _ (c here : Place) (k : Kid) (low : here ≢ []) where
  converts_within : is_begun_conversion (tree_at (up (c ++ here)) (tree_of k))
      ≡ is_begun_conversion (tree_at (up here) (tree_of (kid_at c k)))
  converts_within =
      ap (λ (p : Place). is_begun_conversion (tree_at p (tree_of k))) (up_within c here low)
      ∙ ap is_begun_conversion (tree_append c (up here) (tree_of k) ∙ ap (tree_at (up here)) (sym (tree_of_at c k)))

  pub done_within : done_at (c ++ here) (tree_of k) ≡ c ++ done_at here (tree_of (kid_at c k))
  done_within =
      ap (λ (b : Bool). if b then up (c ++ here) else c ++ here) converts_within
      ∙ go (is_begun_conversion (tree_at (up here) (tree_of (kid_at c k))))
    where
      go : (b : Bool) → (if b then up (c ++ here) else c ++ here) ≡ c ++ (if b then up here else here)
      go true = up_within c here low
      go false = refl

  pub kid_within : (v : Val) → kid_done (c ++ here) (tree_of k) v k ≡ kid_done here (tree_of (kid_at c k)) v (kid_at c k)
  kid_within v =
      ap (λ (b : Bool). if b then made_whole v (kid_at (up (c ++ here)) k) else there v) converts_within
      ∙ ap (λ (x : Kid). if is_begun_conversion (tree_at (up here) (tree_of (kid_at c k))) then made_whole v x else there v)
      (ap (λ (p : Place). kid_at p k) (up_within c here low) ∙ kid_at_append c (up here) k)
