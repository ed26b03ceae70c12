-- A list of files as a map: what is at a name, and what a change of one file does.
use Rattle.std.proofs.Common.{◌≡◌, ◌≢◌, ℕ, zero, suc, ◌<◌, Bool, true, false, cond, List, [], ◌∷◌, ◌++◌, length, get_or, set, take, map, Some, None, refl, sym, ap, ◌∙◌, arith, All, length-append, length-set, subst}
use Rattle.std.proofs.Math.Seq.{get_or-append_seam, take-append_seam}
use Rattle.std.specs.Prelude.{unwrap_or, Result, Ok, Err, OnErr}
use Rattle.std.specs.Ordering.{nat_cmp, eq_by_cmp}
use Rattle.std.specs.Str.{bytes_eq}
use Rattle.std.specs.Cmp.Lexicographic.{slice_cmp}
use Rattle.std.specs.FinMap.{get, insert, find, from_entries, get-from_entries, get-insert, same_map, slice_cmp-IsAntisymmetric, nat_cmp-IsAntisymmetric, IsAntisymmetric, from_entries_push}
use Rattle.std.proofs.lemmas.Cmp.{nat_list_cmp_total}
use Rattle.std.proofs.lemmas.Bool.{false_from_ne_true, cond-true}
use Rattle.std.proofs.lemmas.Slice.Eq.{bytes_eq-Decides}
use Rattle.std.proofs.lemmas.Map.Text.{is_eq-slice_cmp}
use Rattle.std.proofs.lemmas.List.{map-append, get_or_default, get_or-map, get_or-set_same, take-set}
use Rattle.std.proofs.lemmas.List.Elements.{All-head, All-tail}
use Rattle.shunt_store.specs.declared.table.File.{File}
use Rattle.shunt_store.specs.defs.Files.{Files, content}
use Rattle.shunt_store.specs.defs.Table.{entry, files_of, name_at, IsPlaceOf}

abbrev pub at_name : List ℕ → List ℕ → Bool
at_name q name = eq_by_cmp (slice_cmp nat_cmp) q name

pub differs : (q name : List ℕ) → q ≢ name → at_name q name ≡ false
differs q name ne = is_eq-slice_cmp q name ∙ false_from_ne_true (bytes_eq q name) (λ e. ne ((bytes_eq-Decides q name).0 e))

pub equals : (q name : List ℕ) → q ≡ name → at_name q name ≡ true
equals q name e = is_eq-slice_cmp q name ∙ (bytes_eq-Decides q name).1 e

-- none of these files has the name
abbrev pub Lacks : List ℕ → List File → Type 0
Lacks name files = All (λ f. f.name.items ≢ name) files

find_none : (files : List File) (name : List ℕ) → Lacks name files → find (slice_cmp nat_cmp) name (map entry files) ≡ None
find_none [] name lacks = refl
find_none (f ∷ files) name lacks =
    ap (λ b. cond b (Some f.bytes.items) (find (slice_cmp nat_cmp) name (map entry files)))
    (differs name f.name.items (λ e. All-head (λ f. f.name.items ≢ name) f files lacks (sym e)))
    ∙ find_none files name (All-tail (λ f. f.name.items ≢ name) f files lacks)

pub named : (q name : List ℕ) → at_name q name ≡ true → q ≡ name
named q name e = (bytes_eq-Decides q name).0 (sym (is_eq-slice_cmp q name) ∙ e)

find_there : (files : List File) (i : ℕ) (f : File) (name : List ℕ) → Lacks name (take i files) → i < length files → f ≡ get_or files i f → f.name.items ≡ name
    → find (slice_cmp nat_cmp) name (map entry files) ≡ Some f.bytes.items
find_there [] i f name lacks lt is here = absurd (omega arith)
find_there (g ∷ files) zero f name lacks lt is here =
    ap (λ b. cond b (Some g.bytes.items) (find (slice_cmp nat_cmp) name (map entry files))) (equals name g.name.items (sym here ∙ ap (λ (x : File). x.name.items) is))
    ∙ ap (λ (x : File). Some x.bytes.items) (sym is)
find_there (g ∷ files) (suc i) f name lacks lt is here =
    ap (λ b. cond b (Some g.bytes.items) (find (slice_cmp nat_cmp) name (map entry files)))
    (differs name g.name.items (λ e. All-head (λ f. f.name.items ≢ name) g (take i files) lacks (sym e)))
    ∙ find_there files i f name (All-tail (λ f. f.name.items ≢ name) g (take i files) lacks) (omega arith) is here

pub once : {V : Type 0} (b : Bool) (x y z : V) → cond b x z ≡ cond b x (cond b y z)
once true x y z = refl
once false x y z = refl

apart : {V : Type 0} (a b : Bool) (x y z : V) → (a ≡ true → b ≡ true → ⊥) → cond a y (cond b x z) ≡ cond b x (cond a y z)
apart true true x y z h = absurd (h refl refl)
apart true false x y z h = refl
apart false true x y z h = refl
apart false false x y z h = refl

find_set : (files : List File) (i : ℕ) (f : File) (name q : List ℕ) → Lacks name (take i files) → i < length files → ((d : File) → (get_or files i d).name.items ≡ name)
    → f.name.items ≡ name
    → find (slice_cmp nat_cmp) q (map entry (set files i f)) ≡ cond (at_name q name) (Some f.bytes.items) (find (slice_cmp nat_cmp) q (map entry files))
find_set [] i f name q lacks lt at here = absurd (omega arith)
find_set (g ∷ files) zero f name q lacks lt at here =
    let rest = find (slice_cmp nat_cmp) q (map entry files) in
    ap (λ n. cond (at_name q n) (Some f.bytes.items) rest) here
    ∙ once (at_name q name) (Some f.bytes.items) (Some g.bytes.items) rest
    ∙ ap (λ n. cond (at_name q name) (Some f.bytes.items) (cond (at_name q n) (Some g.bytes.items) rest)) (sym (at g))
find_set (g ∷ files) (suc i) f name q lacks lt at here =
    ap (cond (at_name q g.name.items) (Some g.bytes.items)) (find_set files i f name q (All-tail (λ f. f.name.items ≢ name) g (take i files) lacks) (omega arith) at here)
    ∙ apart (at_name q g.name.items) (at_name q name) (Some f.bytes.items) (Some g.bytes.items) (find (slice_cmp nat_cmp) q (map entry files))
    (λ a b. All-head (λ f. f.name.items ≢ name) g (take i files) lacks (sym (named q g.name.items a) ∙ named q name b))

pub same_names : IsAntisymmetric (slice_cmp nat_cmp)
same_names = slice_cmp-IsAntisymmetric nat_cmp-IsAntisymmetric

pub absent : (files : List File) (name : List ℕ) → Lacks name files → get (files_of files) name ≡ None
absent files name lacks = get-from_entries nat_list_cmp_total (map entry files) name ∙ find_none files name lacks

pub there : (files : List File) (i : ℕ) (f : File) (name : List ℕ) → Lacks name (take i files) → i < length files → f ≡ get_or files i f → f.name.items ≡ name
    → get (files_of files) name ≡ Some f.bytes.items
there files i f name lacks lt is here = get-from_entries nat_list_cmp_total (map entry files) name ∙ find_there files i f name lacks lt is here

-- one file's bytes change
pub changed : (files : List File) (i : ℕ) (f : File) (name : List ℕ) → Lacks name (take i files) → i < length files → ((d : File) → (get_or files i d).name.items ≡ name)
    → f.name.items ≡ name → files_of (set files i f) ≡ insert (files_of files) name f.bytes.items
changed files i f name lacks lt at here = same_map nat_list_cmp_total same_names _ _ (λ q.
    get-from_entries nat_list_cmp_total (map entry (set files i f)) q ∙ find_set files i f name q lacks lt at here
    ∙ sym (get-insert nat_list_cmp_total (files_of files) name f.bytes.items q ∙ ap (cond (at_name q name) (Some f.bytes.items))
    (get-from_entries nat_list_cmp_total (map entry files) q)))

-- a file comes
pub pushed : (files : List File) (f : File) (name : List ℕ) → Lacks name files → f.name.items ≡ name → files_of (files ++ f ∷ []) ≡ insert (files_of files) name f.bytes.items
pushed files f name lacks here =
    ap from_entries (map-append entry files (f ∷ [])) ∙ ap (λ n. from_entries (map entry files ++ (n, f.bytes.items) ∷ [])) here
    ∙ from_entries_push nat_list_cmp_total same_names (map entry files) name f.bytes.items (find_none files name lacks)

same_entries : (files : List File) (i : ℕ) (f : File) → i < length files → ((d : File) → entry (get_or files i d) ≡ entry f) → map entry (set files i f) ≡ map entry files
same_entries [] i f lt at = absurd (omega arith)
same_entries (g ∷ files) zero f lt at = ap (λ (e : List ℕ × List ℕ). e ∷ map entry files) (sym (at g))
same_entries (g ∷ files) (suc i) f lt at = ap (λ (es : List (List ℕ × List ℕ)). entry g ∷ es) (same_entries files i f (omega arith) at)

-- a file's room may change, and the files are the same
pub unchanged : (files : List File) (i : ℕ) (f was : File) → i < length files → was ≡ get_or files i was → was.name.items ≡ f.name.items → was.bytes.items ≡ f.bytes.items
    → files_of (set files i f) ≡ files_of files
unchanged files i f was lt is name bytes =
    ap from_entries (same_entries files i f lt (λ d. ap entry (get_or_default files i d was lt ∙ sym is) ∙ ap (λ n. (n, was.bytes.items)) name ∙ ap (λ b. (f.name.items, b)) bytes))

-- bytes are appended to the first file of a name
pub appended : (files : List File) (i : ℕ) (f was : File) (name piece : List ℕ) → Lacks name (take i files) → i < length files → ((d : File) → (get_or files i d).name.items ≡ name)
    → was ≡ get_or files i was → f.name.items ≡ was.name.items → f.bytes.items ≡ was.bytes.items ++ piece
    → files_of (set files i f) ≡ insert (files_of files) name (content (files_of files) name ++ piece)
appended files i f was name piece lacks lt at is same_name more =
    let here : was.name.items ≡ name = ap (λ (x : File). x.name.items) is ∙ at was in
    changed files i f name lacks lt at (same_name ∙ here)
    ∙ ap (insert (files_of files) name) (more ∙ ap (λ o. unwrap_or o [] ++ piece) (sym (there files i was name lacks lt is here)))

pub on_err : {T E : Type 0} (r : Result T E) (P : Type 0) → P → OnErr r P
on_err (Ok v) P p = tt
on_err (Err e) P p = p

-- the last that is put at a name counts
pub overwrites : (files : Files) (name v w : List ℕ) → insert (insert files name v) name w ≡ insert files name w
overwrites files name v w = same_map nat_list_cmp_total same_names _ _ (λ q.
    get-insert nat_list_cmp_total (insert files name v) name w q ∙ ap (cond (at_name q name) (Some w)) (get-insert nat_list_cmp_total files name v q)
    ∙ sym (once (at_name q name) (Some w) (Some v) (get files q)) ∙ sym (get-insert nat_list_cmp_total files name w q))

pub get_here : (files : Files) (name v : List ℕ) → get (insert files name v) name ≡ Some v
get_here files name v = get-insert nat_list_cmp_total files name v name ∙ cond-true (at_name name name) (Some v) (get files name) (equals name name refl)

kept_at : (files : Files) (name v q : List ℕ) (b : Bool) → (b ≡ true → q ≡ name) → get files name ≡ Some v → cond b (Some v) (get files q) ≡ get files q
kept_at files name v q true h e = sym e ∙ ap (get files) (sym (h refl))
kept_at files name v q false h e = refl

-- to put what is there changes nothing
pub kept : (files : Files) (name v : List ℕ) → get files name ≡ Some v → insert files name v ≡ files
kept files name v e = same_map nat_list_cmp_total same_names _ _ (λ q. get-insert nat_list_cmp_total files name v q ∙ kept_at files name v q (at_name q name) (named q name) e)

pub same_elsewhere : (files : Files) (name v q : List ℕ) → q ≢ name → get (insert files name v) q ≡ get files q
same_elsewhere files name v q ne = get-insert nat_list_cmp_total files name v q ∙ ap (λ b. cond b (Some v) (get files q)) (differs q name ne)

-- what a file at a place is called
pub name_there : (files : List File) (i : ℕ) (d : File) → i < length files → (get_or files i d).name.items ≡ name_at files i
name_there files i d lt = sym (get_or-map (λ (f : File). f.name.items) files i d [] lt)

-- where a search stopped
pub placed : (files : List File) (i : ℕ) (name : List ℕ) → i < length files → Lacks name (take i files) → ((d : File) → i < length files → (get_or files i d).name.items ≡ name)
    → IsPlaceOf files name i
placed [] i name lt lacks at = absurd (omega arith)
placed (f ∷ files) i name lt lacks at = record { within = lt; here = sym (name_there (f ∷ files) i f lt) ∙ at f lt; before = lacks }

-- there is something at a name that has a place
pub held_there : (files : List File) (i : ℕ) (name : List ℕ) → IsPlaceOf files name i → get (files_of files) name ≢ None
held_there [] i name p e = absurd (omega (arith, p.within))
held_there (g ∷ files) i name p e =
    let f = get_or (g ∷ files) i g in
    let is : f ≡ get_or (g ∷ files) i f = get_or_default (g ∷ files) i g f p.within in
    let found : get (files_of (g ∷ files)) name ≡ Some f.bytes.items = there (g ∷ files) i f name p.before p.within is (name_there (g ∷ files) i g p.within ∙ p.here) in
    cc

-- the file at a place changes, but for its name
pub still_there : (files : List File) (i : ℕ) (f : File) (name : List ℕ) → IsPlaceOf files name i → f.name.items ≡ name → IsPlaceOf (set files i f) name i
still_there files i f name p here =
    let lt : i < length (set files i f) = simp length-set p.within in
    record {
      within = lt;
      here = sym (name_there (set files i f) i f lt) ∙ ap (λ (x : File). x.name.items) (get_or-set_same files i f f p.within) ∙ here;
      before = rw (take-set files i f) p.before;
    }

-- a file comes behind the last
behind : (files : List File) (f : File) (name : List ℕ) → Lacks name files → f.name.items ≡ name → IsPlaceOf (files ++ f ∷ []) name (length files)
behind files f name lacks here =
    let lt : length files < length (files ++ f ∷ []) = omega (arith, length-append files (f ∷ [])) in
    record {
      within = lt;
      here = sym (name_there (files ++ f ∷ []) (length files) f lt) ∙ ap (λ (x : File). x.name.items) (get_or-append_seam files f [] f) ∙ here;
      before = rw (take-append_seam files (f ∷ [])) lacks;
    }

pub pushed_there : (files new : List File) (f : File) (name : List ℕ) (n : ℕ) → Lacks name files → new ≡ files ++ f ∷ [] → f.name.items ≡ name → n ≡ length files
    → IsPlaceOf new name n
pushed_there files new f name n lacks is here last = subst (λ fs. IsPlaceOf fs name n) (sym is)
    (subst (IsPlaceOf (files ++ f ∷ []) name) (sym last) (behind files f name lacks here))
