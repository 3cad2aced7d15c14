-- What words ask for has its form: the cluster of a log file is a name, and lists have 1 to 16 nodes that ascend.
use Rattle.std.proofs.Common.{◌≡◌, ℕ, ◌^◌, Bool, true, false, ◌&&◌, if◌then◌else◌, IsTrue, List, [], ◌∷◌, codes, Option, Some, None, IfSome, option_map, option_and_then, refl, ◌==◌}
use Rattle.std.proofs.lemmas.Bool.{and_parts}
use Rattle.std.specs.List.{slice_split}
use Rattle.std.specs.Str.{bytes_eq}
use Rattle.cluster_terms.specs.Name.{is_name}
use Rattle.script_lang.specs.Grammar.{node_of, number_below}
use Rattle.tcm_session.specs.Request.{Cms, CommitTo, Gen, Mend, Plan, Replay, Request, Snapshot, are_files, are_nodes, cms_request, commit_request, each_node, gen_request, is_file_name, is_log, mend_request, node_list, plan_request, replay_request, request_of, snapshot_request}

abbrev pub HasForms : Option Request → Type 0
HasForms (Some (CommitTo log cluster)) = is_name cluster ≡ true
HasForms (Some (Plan log node keyspace)) = is_name keyspace ≡ true
HasForms (Some (Cms log from to)) = IsTrue (are_nodes from) × IsTrue (are_nodes to)
HasForms _ = Unit {0}

of_commit : (words : List (List ℕ)) → HasForms (commit_request words)
of_commit [] = tt
of_commit (log ∷ []) = tt
of_commit (log ∷ cluster ∷ []) = by (is_log log cluster) refl
  where
    by : (b : Bool) → is_log log cluster ≡ b → HasForms (if b then Some (CommitTo log cluster) else None)
    by true is = (and_parts (is_file_name log) (is_name cluster) is).1
    by false is = tt
of_commit (log ∷ cluster ∷ word ∷ words) = tt

of_replay : (words : List (List ℕ)) → HasForms (replay_request words)
of_replay words = by (are_files words)
  where
    by : (b : Bool) → HasForms (if b then Some (Replay words) else None)
    by true = tt
    by false = tt

of_snapshot : (words : List (List ℕ)) → HasForms (snapshot_request words)
of_snapshot [] = tt
of_snapshot (log ∷ []) = tt
of_snapshot (log ∷ epoch ∷ []) = by (is_file_name log) (number_below (2 ^ 64) epoch)
  where
    by : (b : Bool) (o : Option ℕ) → HasForms (if b then option_map (Snapshot log) o else None)
    by true None = tt
    by true (Some e) = tt
    by false o = tt
of_snapshot (log ∷ epoch ∷ word ∷ words) = tt

of_gen : (words : List (List ℕ)) → HasForms (gen_request words)
of_gen [] = tt
of_gen (start ∷ []) = tt
of_gen (start ∷ rounds ∷ []) = by (number_below (2 ^ 64) start) (number_below 3001 rounds)
  where
    by : (s r : Option ℕ) → HasForms (option_and_then (λ s. option_map (Gen s) r) s)
    by None r = tt
    by (Some s) None = tt
    by (Some s) (Some r) = tt
of_gen (start ∷ rounds ∷ word ∷ words) = tt

of_mend : (words : List (List ℕ)) → HasForms (mend_request words)
of_mend [] = tt
of_mend (old ∷ []) = tt
of_mend (old ∷ new ∷ []) = tt
of_mend (old ∷ new ∷ cluster ∷ []) = by (is_file_name old) (is_log new cluster)
  where
    by : (a b : Bool) → HasForms (if a && b then Some (Mend old new cluster) else None)
    by true true = tt
    by true false = tt
    by false b = tt
of_mend (old ∷ new ∷ cluster ∷ word ∷ words) = tt

of_plan : (words : List (List ℕ)) → HasForms (plan_request words)
of_plan [] = tt
of_plan (log ∷ []) = tt
of_plan (log ∷ node ∷ []) = tt
of_plan (log ∷ node ∷ keyspace ∷ []) = by (is_file_name log && is_name keyspace) refl (node_of node)
  where
    by : (b : Bool) → is_file_name log && is_name keyspace ≡ b → (o : Option ℕ) → HasForms (if b then option_map (λ n. Plan log n keyspace) o else None)
    by true is None = tt
    by true is (Some n) = (and_parts (is_file_name log) (is_name keyspace) is).1
    by false is o = tt
of_plan (log ∷ node ∷ keyspace ∷ word ∷ words) = tt

listed : (text : List ℕ) → IfSome (node_list text) (λ ns. IsTrue (are_nodes ns))
listed text = by (each_node (slice_split (λ byte. byte == 44) text))
  where
    kept : (ns : List ℕ) (b : Bool) → are_nodes ns ≡ b → IfSome (if b then Some ns else None) (λ ns. IsTrue (are_nodes ns))
    kept ns true is = is
    kept ns false is = tt

    by : (o : Option (List ℕ)) → IfSome (option_and_then (λ ns. if are_nodes ns then Some ns else None) o) (λ ns. IsTrue (are_nodes ns))
    by None = tt
    by (Some ns) = kept ns (are_nodes ns) refl

of_cms : (words : List (List ℕ)) → HasForms (cms_request words)
of_cms [] = tt
of_cms (log ∷ []) = tt
of_cms (log ∷ from ∷ []) = tt
of_cms (log ∷ from ∷ to ∷ []) = by (is_file_name log) (node_list from) (node_list to) (listed from) (listed to)
  where
    by : (b : Bool) (f t : Option (List ℕ)) → IfSome f (λ ns. IsTrue (are_nodes ns)) → IfSome t (λ ns. IsTrue (are_nodes ns)) → HasForms (if b then option_and_then (λ f. option_map (Cms log f) t) f else None)
    by false f t from_are to_are = tt
    by true None t from_are to_are = tt
    by true (Some f) None from_are to_are = tt
    by true (Some f) (Some t) from_are to_are = (from_are, to_are)
of_cms (log ∷ from ∷ to ∷ word ∷ words) = tt

pub words_form : (words : List (List ℕ)) → HasForms (request_of words)
unfolding request_of
words_form [] = tt
words_form (word ∷ words) =
    by (bytes_eq word (codes "commit")) (bytes_eq word (codes "replay")) (bytes_eq word (codes "snapshot")) (bytes_eq word (codes "gen")) (bytes_eq word (codes "mend2")) (bytes_eq word (codes "plan")) (bytes_eq word (codes "cms"))
  where
    by : (a b c d e f g : Bool) → HasForms (if a then commit_request words else if b then replay_request words else if c then snapshot_request words else if d then gen_request words else if e then mend_request words else if f then plan_request words else if g then cms_request words else None)
    by true b c d e f g = of_commit words
    by false true c d e f g = of_replay words
    by false false true d e f g = of_snapshot words
    by false false false true e f g = of_gen words
    by false false false false true f g = of_mend words
    by false false false false false true g = of_plan words
    by false false false false false false true = of_cms words
    by false false false false false false false = tt
