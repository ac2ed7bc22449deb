-- The links of a pattern are its stages.
use Rattle.std.proofs.Common.{◌≡◌, Bool, true, false, ◌⊎◌, inl, inr, List, [], ◌∷◌, ◌++◌, refl, sym, ◌∙◌, ap, subst, append_assoc, append-nil}
use Rattle.std.proofs.lemmas.List.Sums.{fold-append}
use Rattle.std.specs.Prelude.{codes, Option, Some, None, fold}
use Rattle.cep_reading.specs.declared.name.Name.{Name}
use Rattle.cep_expression.specs.declared.expr.SynExpr.{SynExpr}
use Rattle.cep_syntax.specs.declared.file.OpenKind.{OpenKind}
use Rattle.cep_syntax.specs.declared.file.OpenKind.TheVariants.{Begin}
use Rattle.cep_syntax.specs.declared.file.Modifier.{Modifier}
use Rattle.cep_syntax.specs.declared.file.Opener.{Opener}
use Rattle.cep_syntax.specs.declared.link.Building.{Building}
use Rattle.cep_syntax.specs.declared.link.Link.{Link}
use Rattle.cep_syntax.specs.declared.link.Link.TheVariants.{Of, Mod, Open}
use Rattle.cep_reading.specs.Reading.{Left}
use Rattle.cep_reading.specs.Rule.{Rule, InTurn, Builds, many_by, many, sign}
use Rattle.cep_reading.specs.Rule as rule
use Rattle.cep_syntax.specs.Links.{added, opened, started, openers_of}
use Rattle.cep_syntax.specs.Grammar.{of_name, opener_named, modifier, stage, next_stage, stages}

-- ---- the links as rules

abbrev pub of_link : Rule Link
of_link = rule.◌>>=◌ of_name (λ name. rule.pure (Of name))

abbrev pub open_link : Rule Link
open_link = rule.◌>>=◌ opener_named (λ found. rule.pure (Open found.0 found.1))

abbrev pub modifier_link : Rule SynExpr → Rule Link
modifier_link expr = rule.◌>>=◌ (modifier expr) (λ m. rule.pure (Mod m))

abbrev pub plain_link : Rule SynExpr → Rule Link
plain_link expr = rule.◌or◌ open_link (modifier_link expr)

-- `of` comes only directly behind an opener
abbrev pub any_link : Rule SynExpr → Bool → Rule Link
any_link expr true = rule.◌or◌ of_link (plain_link expr)
any_link expr false = plain_link expr

abbrev pub dotted : Rule SynExpr → Bool → Rule Link
dotted expr fresh = rule.◌>>◌ (sign (codes ".")) (any_link expr fresh)

-- ---- a value made of another

made_is : {A B : Type 0} (r : Rule A) (f : A → B) (used : Left) (b : B) → rule.◌>>=◌ r (λ a. rule.pure (f a)) used b → (a : A) × r used a × (b ≡ f a)
made_is r f used b h = (h.value, subst (λ l. r l h.value) (sym (h.is ∙ ap (λ l. h.front ++ l) h.second.0 ∙ append-nil h.front)) h.first, h.second.1)

made_of : {A B : Type 0} (r : Rule A) (f : A → B) (used : Left) (a : A) → r used a → rule.◌>>=◌ r (λ x. rule.pure (f x)) used (f a)
made_of r f used a h = record { front = used; back = []; value = a; is = sym (append-nil used); first = h; second = (refl, refl) }

module _ (expr : Rule SynExpr) where
  abbrev dotted_modifier : Rule Modifier
  dotted_modifier = rule.◌>>◌ (sign (codes ".")) (modifier expr)

  abbrev dotted_of : Rule (Option Name)
  dotted_of = rule.◌>>=◌ (sign (codes ".")) (λ _. rule.◌>>=◌ of_name (λ name. rule.pure (Some name)))

  -- what stands behind a name, of which nothing or a part was read before
  pub record Later (done : List Opener) (current : Opener) (used : Left) (built : Building) : Type 0 where
    pub front : Left
    pub back : Left
    pub mods : List Modifier
    pub more : List Opener
    pub is : used ≡ front ++ back
    pub mods_are : many (dotted_modifier) front mods
    pub more_are : many (next_stage expr) back more
    pub built_is : openers_of built ≡ done ++ record { how = current.how; name = current.name; of = current.of; mods = current.mods ++ mods } ∷ more

  pub record Opening (done : List Opener) (current : Opener) (used : Left) (built : Building) : Type 0 where
    pub front : Left
    pub back : Left
    pub first : Opener
    pub more : List Opener
    pub is : used ≡ front ++ back
    pub first_is : stage expr current.how current.name front first
    pub more_are : many (next_stage expr) back more
    pub built_is : openers_of built ≡ done ++ first ∷ more

  abbrev fresh_state : List Opener → Opener → Building
  fresh_state done current = record { done = done; current = current; fresh = true }

  abbrev later_state : List Opener → Opener → Building
  later_state done current = record { done = done; current = current; fresh = false }

  abbrev turns : Building → Left → List Link → Type 0
  turns b used items = many_by added (λ c. dotted expr c.fresh) b used items

  -- one more modifier
  with_modifier : (done : List Opener) (current : Opener) (m : Modifier) (front back used : Left) (built : Building) → used ≡ front ++ back
      → dotted_modifier front m
      → Later done (record { how = current.how; name = current.name; of = current.of; mods = current.mods ++ m ∷ [] }) back built
      → Later done current used built
  with_modifier done current m front back used built is first k = record {
    front = front ++ k.front;
    back = k.back;
    mods = m ∷ k.mods;
    more = k.more;
    is = is ∙ ap (λ l. front ++ l) k.is ∙ sym (append_assoc front k.front k.back);
    mods_are = (front, k.front, refl, first, k.mods_are);
    more_are = k.more_are;
    built_is = k.built_is
        ∙ ap (λ l. done ++ record { how = current.how; name = current.name; of = current.of; mods = l } ∷ k.more)
        (append_assoc current.mods (m ∷ []) k.mods);
  }

  -- one more stage
  with_stage : (done : List Opener) (current : Opener) (o : OpenKind × Name) (front back used : Left) (built : Building) → used ≡ front ++ back
      → InTurn (sign (codes ".")) (λ _. opener_named) front o
      → Opening (done ++ current ∷ []) (opened o.0 o.1) back built → Later done current used built
  with_stage done current o front back used built is first k = record {
    front = [];
    back = used;
    mods = [];
    more = k.first ∷ k.more;
    is = refl;
    mods_are = refl;
    more_are = (
      front ++ k.front,
      k.back,
      is ∙ ap (λ l. front ++ l) k.is ∙ sym (append_assoc front k.front k.back),
      record {
        front = first.front;
        back = first.back ++ k.front;
        value = first.value;
        is = ap (λ l. l ++ k.front) first.is ∙ append_assoc first.front first.back k.front;
        first = first.first;
        second = record { front = first.back; back = k.front; value = o; is = refl; first = first.second; second = k.first_is };
      },
      k.more_are,
    );
    built_is = k.built_is ∙ append_assoc done (current ∷ []) (k.first ∷ k.more)
        ∙ ap (λ l. done ++ record { how = current.how; name = current.name; of = current.of; mods = l } ∷ (k.first ∷ k.more)) (sym (append-nil current.mods));
  }

  -- a stage without `of`
  plain_stage : (done : List Opener) (current : Opener) (used : Left) (built : Building) → current.of ≡ None → current.mods ≡ []
      → Later done current used built → Opening done current used built
  plain_stage done current used built no_of no_mods k = record {
    front = k.front;
    back = k.back;
    first = record { how = current.how; name = current.name; of = None; mods = k.mods };
    more = k.more;
    is = k.is;
    first_is = record {
      front = [];
      back = k.front;
      value = None;
      is = refl;
      first = inr (refl, refl);
      second = record { front = k.front; back = []; value = k.mods; is = sym (append-nil k.front); first = k.mods_are; second = (refl, refl) };
    };
    more_are = k.more_are;
    built_is = k.built_is ∙ (λ i. done ++ record { how = current.how; name = current.name; of = no_of i; mods = no_mods i ++ k.mods } ∷ k.more);
  }

  -- a stage with `of`
  stage_with_of : (done : List Opener) (current : Opener) (name : Name) (front back used : Left) (built : Building) → used ≡ front ++ back
      → InTurn (sign (codes ".")) (λ _. of_name) front name → current.mods ≡ []
      → Later done (record { how = current.how; name = current.name; of = Some name; mods = current.mods }) back built → Opening done current used built
  stage_with_of done current name front back used built is first no_mods k = record {
    front = front ++ k.front;
    back = k.back;
    first = record { how = current.how; name = current.name; of = Some name; mods = k.mods };
    more = k.more;
    is = is ∙ ap (λ l. front ++ l) k.is ∙ sym (append_assoc front k.front k.back);
    first_is = record {
      front = front;
      back = k.front;
      value = Some name;
      is = refl;
      first = inl (record {
        front = first.front;
        back = first.back;
        value = first.value;
        is = first.is;
        first = first.first;
        second = record { front = first.back; back = []; value = name; is = sym (append-nil first.back); first = first.second; second = (refl, refl) };
      });
      second = record { front = k.front; back = []; value = k.mods; is = sym (append-nil k.front); first = k.mods_are; second = (refl, refl) };
    };
    more_are = k.more_are;
    built_is = k.built_is ∙ (λ i. done ++ record { how = current.how; name = current.name; of = Some name; mods = no_mods i ++ k.mods } ∷ k.more);
  }

  nothing_later : (done : List Opener) (current : Opener) (used : Left) (built : Building) → used ≡ [] → openers_of built ≡ done ++ current ∷ []
      → Later done current used built
  nothing_later done current used built none e = record {
    front = [];
    back = [];
    mods = [];
    more = [];
    is = none;
    mods_are = refl;
    more_are = refl;
    built_is = e ∙ ap (λ l. done ++ record { how = current.how; name = current.name; of = current.of; mods = l } ∷ []) (sym (append-nil current.mods));
  }

  abbrev Laters : List Link → Type 0
  Laters items = (done : List Opener) (current : Opener) (used : Left) → turns (later_state done current) used items
      → Later done current used (fold added (later_state done current) items)

  abbrev Openings : List Link → Type 0
  Openings items = (done : List Opener) (current : Opener) (used : Left) → current.of ≡ None → current.mods ≡ []
      → turns (fresh_state done current) used items → Opening done current used (fold added (fresh_state done current) items)

  -- a modifier or the next stage, from either state
  later_turn : (fresh : Bool) (items : List Link) → Laters items → Openings items
      → (done : List Opener) (current : Opener) (l : Link) (used front back : Left) → used ≡ front ++ back
      → InTurn (sign (codes ".")) (λ _. any_link expr false) front l
      → turns (added (record { done = done; current = current; fresh = fresh }) l) back items
      → Later done current used (fold added (added (record { done = done; current = current; fresh = fresh }) l) items)
  later_turn fresh items laters openings done current l used front back is d rest = cases d.second where
    cases : any_link expr false d.back l → Later done current used (fold added (added (record { done = done; current = current; fresh = fresh }) l) items)
    cases (inr h) =
        let k = made_is (modifier expr) Mod d.back l h in
        subst (λ x. Later done current used (fold added (added (record { done = done; current = current; fresh = fresh }) x) items)) (sym k.2)
        (with_modifier done current k.0 front back used _ is
        (record { front = d.front; back = d.back; value = d.value; is = d.is; first = d.first; second = k.1 })
        (laters done (record { how = current.how; name = current.name; of = current.of; mods = current.mods ++ k.0 ∷ [] }) back
        (subst (λ x. turns (added (record { done = done; current = current; fresh = fresh }) x) back items) k.2 rest)))
    cases (inl h) =
        let k = made_is opener_named (λ o. Open o.0 o.1) d.back l h in
        subst (λ x. Later done current used (fold added (added (record { done = done; current = current; fresh = fresh }) x) items)) (sym k.2)
        (with_stage done current k.0 front back used _ is (record { front = d.front; back = d.back; value = d.value; is = d.is; first = d.first; second = k.1 })
        (openings (done ++ current ∷ []) (opened k.0.0 k.0.1) back refl refl
        (subst (λ x. turns (added (record { done = done; current = current; fresh = fresh }) x) back items) k.2 rest)))

  opening_turn : (items : List Link) → Laters items → Openings items → (done : List Opener) (current : Opener) (l : Link) (used front back : Left)
      → current.of ≡ None → current.mods ≡ [] → used ≡ front ++ back
      → InTurn (sign (codes ".")) (λ _. any_link expr true) front l
      → turns (added (fresh_state done current) l) back items
      → Opening done current used (fold added (added (fresh_state done current) l) items)
  opening_turn items laters openings done current l used front back no_of no_mods is d rest = cases d.second where
    cases : any_link expr true d.back l → Opening done current used (fold added (added (fresh_state done current) l) items)
    cases (inl h) =
        let k = made_is of_name Of d.back l h in
        subst (λ x. Opening done current used (fold added (added (fresh_state done current) x) items)) (sym k.2)
        (stage_with_of done current k.0 front back used _ is
        (record { front = d.front; back = d.back; value = d.value; is = d.is; first = d.first; second = k.1 }) no_mods
        (laters done (record { how = current.how; name = current.name; of = Some k.0; mods = current.mods }) back
        (subst (λ x. turns (added (fresh_state done current) x) back items) k.2 rest)))
    cases (inr h) =
        plain_stage done current used _ no_of no_mods
        (later_turn true items laters openings done current l used front back is
        (record { front = d.front; back = d.back; value = d.value; is = d.is; first = d.first; second = h }) rest)

  both : (items : List Link) → Laters items × Openings items
  both [] = (
    λ done current used h. nothing_later done current used (later_state done current) h refl,
    λ done current used no_of no_mods h. plain_stage done current used (fresh_state done current) no_of no_mods
        (nothing_later done current used (fresh_state done current) h refl),
  )
  both (l ∷ items) =
      let k = both items in (
        λ done current used h. later_turn false items k.0 k.1 done current l used h.0 h.1 h.2 h.3 h.4,
        λ done current used no_of no_mods h. opening_turn items k.0 k.1 done current l used h.0 h.1 no_of no_mods h.2 h.3 h.4,
      )

  -- what the links build are stages of the grammar
  pub links-stages : (name : Name) (used : Left) (built : Building) → Builds added (λ c. dotted expr c.fresh) (started name) used built
      → stages expr name used (openers_of built)
  links-stages name used built h =
      let k = (both h.items).1 [] (opened Begin name) used refl refl h.holds in
      record {
        front = k.front;
        back = k.back;
        value = k.first;
        is = k.is;
        first = k.first_is;
        second =
            record {
              front = k.back;
              back = [];
              value = k.more;
              is = sym (append-nil k.back);
              first = k.more_are;
              second =
                  (refl, ap openers_of h.is ∙ k.built_is);
            };
      }

  -- the links of modifiers
  abbrev mod_links : List Modifier → List Link
  mod_links [] = []
  mod_links (m ∷ mods) = Mod m ∷ mod_links mods

  dotted_mod : (fresh : Bool) (used : Left) (m : Modifier) → dotted_modifier used m → dotted expr fresh used (Mod m)
  dotted_mod true used m h =
      record {
        front = h.front;
        back = h.back;
        value = h.value;
        is = h.is;
        first = h.first;
        second =
            inr (inr (made_of (modifier expr) Mod h.back m h.second));
      }
  dotted_mod false used m h =
      record {
        front = h.front;
        back = h.back;
        value = h.value;
        is = h.is;
        first = h.first;
        second =
            inr (made_of (modifier expr) Mod h.back m h.second);
      }

  mods_turns : (mods : List Modifier) (s : Building) (front tail : Left) (items : List Link) → many (dotted_modifier) front mods
      → turns (fold added s (mod_links mods)) tail items → turns s (front ++ tail) (mod_links mods ++ items)
  mods_turns [] s front tail items h k = subst (λ l. turns s (l ++ tail) items) (sym h) k
  mods_turns (m ∷ mods) s front tail items h k = (
    h.0,
    h.1 ++ tail,
    ap (λ l. l ++ tail) h.2
        ∙ append_assoc h.0 h.1 tail,
    dotted_mod s.fresh h.0 m h.3,
    mods_turns mods (added s (Mod m)) h.1 tail items h.4 k,
  )

  mods_fold : (mods : List Modifier) (s : Building) → (fold added s (mod_links mods)).done ≡ s.done
  mods_fold [] s = refl
  mods_fold (m ∷ mods) s = mods_fold mods (added s (Mod m))

  mods_current : (mods : List Modifier) (s : Building)
      → (fold added s (mod_links mods)).current
      ≡ record { how = s.current.how; name = s.current.name; of = s.current.of; mods = s.current.mods ++ mods }
  mods_current [] s = ap (λ l. record { how = s.current.how; name = s.current.name; of = s.current.of; mods = l }) (sym (append-nil s.current.mods))
  mods_current (m ∷ mods) s =
      mods_current mods (added s (Mod m))
      ∙ ap (λ l. record { how = s.current.how; name = s.current.name; of = s.current.of; mods = l }) (append_assoc s.current.mods (m ∷ []) mods)

  -- links from a state on, and what they build
  record Linked (s : Building) (used : Left) (openers : List Opener) : Type 0 where
    items : List Link
    holds : turns s used items
    built : openers_of (fold added s items) ≡ openers

  -- a stage and what comes behind it
  mods_linked : (mods : List Modifier) (s : Building) (front tail : Left) (openers : List Opener) → many (dotted_modifier) front mods
      → Linked (fold added s (mod_links mods)) tail openers → Linked s (front ++ tail) openers
  mods_linked mods s front tail openers h k = record {
    items = mod_links mods ++ k.items;
    holds = mods_turns mods s front tail k.items h k.holds;
    built = ap openers_of (fold-append added s (mod_links mods) k.items) ∙ k.built;
  }

  stage_linked : (done : List Opener) (current first : Opener) (front tail : Left) (openers : List Opener) → current.of ≡ None → current.mods ≡ []
      → stage expr current.how current.name front first
      → ((s : Building) → s.done ≡ done → s.current ≡ first → Linked s tail openers) → Linked (fresh_state done current) (front ++ tail) openers
  stage_linked done current first front tail openers no_of no_mods h next = cases h.first where
    mods : List Modifier
    mods = h.second.value

    behind : h.back ≡ h.second.front
    behind = h.second.is ∙ ap (λ l. h.second.front ++ l) h.second.second.0 ∙ append-nil h.second.front

    cases : (dotted_of h.front h.value) ⊎ ((h.front ≡ []) × (h.value ≡ None)) → Linked (fresh_state done current) (front ++ tail) openers
    cases (inr none) =
        let s = fresh_state done current in
        let is : front ++ tail ≡ h.second.front ++ tail = ap (λ l. l ++ tail) (h.is ∙ ap (λ l. l ++ h.back) none.0 ∙ behind) in
        let current_is : (fold added s (mod_links mods)).current ≡ first =
        mods_current mods s ∙ (λ i. record { how = current.how; name = current.name; of = (no_of ∙ sym none.1) i; mods = no_mods i ++ mods })
        ∙ sym h.second.second.1 in
        subst (λ l. Linked s l openers) (sym is) (mods_linked mods s h.second.front tail openers h.second.first
        (next (fold added s (mod_links mods)) (mods_fold mods s) current_is))
    cases (inl some) =
        let name = some.second.value in
        let s = later_state done (record { how = current.how; name = current.name; of = Some name; mods = current.mods }) in
        let of_back : some.back ≡ some.second.front = some.second.is ∙ ap (λ l. some.second.front ++ l) some.second.second.0 ∙ append-nil some.second.front in
        let is : front ++ tail ≡ h.front ++ (h.second.front ++ tail) =
        ap (λ l. l ++ tail) (h.is ∙ ap (λ l. h.front ++ l) behind) ∙ append_assoc h.front h.second.front tail in
        let current_is : (fold added s (mod_links mods)).current ≡ first =
        mods_current mods s ∙ (λ i. record { how = current.how; name = current.name; of = (sym some.second.second.1) i; mods = no_mods i ++ mods })
        ∙ sym h.second.second.1 in
        let k = mods_linked mods s h.second.front tail openers h.second.first (next (fold added s (mod_links mods)) (mods_fold mods s) current_is) in
        record {
          items = Of name ∷ k.items;
          holds = (
            h.front,
            h.second.front ++ tail,
            is,
            record {
              front = some.front;
              back = some.back;
              value = some.value;
              is = some.is;
              first = some.first;
              second =
                  inl (made_of of_name Of some.back name (subst (λ l. of_name l name) (sym of_back) some.second.first));
            },
            k.holds,
          );
          built = k.built;
        }

  dotted_open : (fresh : Bool) (used : Left) (o : OpenKind × Name) → InTurn (sign (codes ".")) (λ _. opener_named) used o → dotted expr fresh used (Open o.0 o.1)
  dotted_open true used o h =
      record {
        front = h.front;
        back = h.back;
        value = h.value;
        is = h.is;
        first = h.first;
        second =
            inr (inl (made_of opener_named (λ x. Open x.0 x.1) h.back o h.second));
      }
  dotted_open false used o h =
      record {
        front = h.front;
        back = h.back;
        value = h.value;
        is = h.is;
        first = h.first;
        second =
            inl (made_of opener_named (λ x. Open x.0 x.1) h.back o h.second);
      }

  stages_linked : (more : List Opener) (s : Building) (used : Left) → many (next_stage expr) used more → Linked s used (s.done ++ s.current ∷ more)
  stages_linked [] s used h = record { items = []; holds = h; built = refl }
  stages_linked (first ∷ more) s used h =
      let ns = h.3 in
      let o = ns.second.value in
      let openers = s.done ++ s.current ∷ (first ∷ more) in
      let later = λ (t : Building) (d : t.done ≡ s.done ++ s.current ∷ []) (c : t.current ≡ first).
      subst (Linked t h.1) ((λ i. d i ++ c i ∷ more) ∙ append_assoc s.done (s.current ∷ []) (first ∷ more)) (stages_linked more t h.1 h.4) in
      let k = stage_linked (s.done ++ s.current ∷ []) (opened o.0 o.1) first ns.second.back h.1 openers refl refl ns.second.second later in
      let is : used ≡ (ns.front ++ ns.second.front) ++ (ns.second.back ++ h.1) =
      h.2 ∙ ap (λ l. l ++ h.1) (ns.is ∙ ap (λ l. ns.front ++ l) ns.second.is ∙ sym (append_assoc ns.front ns.second.front ns.second.back))
      ∙ append_assoc (ns.front ++ ns.second.front) ns.second.back h.1 in
      record {
        items = Open o.0 o.1 ∷ k.items;
        holds = (
          ns.front ++ ns.second.front,
          ns.second.back ++ h.1,
          is,
          dotted_open s.fresh (ns.front ++ ns.second.front) o
              (record { front = ns.front; back = ns.second.front; value = ns.value; is = refl; first = ns.first; second = ns.second.first }),
          k.holds,
        );
        built = k.built;
      }

  -- each stages of the grammar are what some links build
  pub stages-links : (name : Name) (used : Left) (all : List Opener) → stages expr name used all → (built : Building)
      × Builds added (λ c. dotted expr c.fresh) (started name) used built × (openers_of built ≡ all)
  stages-links name used all h =
      let first = h.value in
      let more = h.second.value in
      let behind : h.back ≡ h.second.front = h.second.is ∙ ap (λ l. h.second.front ++ l) h.second.second.0 ∙ append-nil h.second.front in
      let later = λ (t : Building) (d : t.done ≡ []) (c : t.current ≡ first).
      subst (Linked t h.second.front) (λ i. d i ++ c i ∷ more) (stages_linked more t h.second.front h.second.first) in
      let k = stage_linked [] (opened Begin name) first h.front h.second.front (first ∷ more) refl refl h.first later in
      let is : used ≡ h.front ++ h.second.front = h.is ∙ ap (λ l. h.front ++ l) behind in (
        fold added (started name) k.items,
        record { items = k.items; holds = subst (λ l. turns (started name) l k.items) (sym is) k.holds; is = refl },
        k.built ∙ sym h.second.second.1,
      )
