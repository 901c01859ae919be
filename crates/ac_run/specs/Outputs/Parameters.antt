-- The parameters of a query: a line for each, with an example and what it asks for.
use Rattle.std.specs.Prelude.{ℕ, List, [], ◌∷◌, codes}
use Rattle.ac_base.specs.Writing.Pieces.{said}

unfoldable pub parameters_text : List ℕ
parameters_text =
    said
    (codes "resources=VCPU:2,DISK_GB:20            how much of each class\n"
    ∷ codes "required=HW_CPU_X86_AVX2,!CUSTOM_OLD   traits to have, and behind ! not to have\n"
    ∷ codes "required=in:CUSTOM_A,CUSTOM_B          one of these traits (1.39), repeatable\n"
    ∷ codes "member_of=in:UUID,UUID                 in one of these aggregates, repeatable\n"
    ∷ codes "member_of=!in:UUID,UUID                in none of these aggregates, repeatable\n"
    ∷ codes "in_tree=UUID                           in the tree of this provider\n"
    ∷ codes "resources_NET=SRIOV_NET_VF:1           a granular group, of any suffix\n"
    ∷ codes "required_NET=CUSTOM_PHYSNET_1          its traits\n"
    ∷ codes "member_of_NET=UUID                     its aggregates\n"
    ∷ codes "in_tree_NET=UUID                       its tree\n"
    ∷ codes "group_policy=isolate                   granular groups apart; or none\n"
    ∷ codes "same_subtree=_NET,_GPU                 one of these groups above all of them\n"
    ∷ codes "root_required=COMPUTE_NODE,!CUSTOM_OLD traits of the root provider\n"
    ∷ codes "limit=10                               so many candidates at most\n"
    ∷ [])
