-- What a place's state says of its node and its mark.
use Rattle.std.proofs.Common.{◌≡◌, ℕ, Bool, true, false, Some, None, IsSome, refl, sym, ap, true≢false}
use Rattle.std.specs.Prelude.{is_none}
use Rattle.gs_pool.specs.declared.nodes.Node.{Node}
use Rattle.gs_pool.specs.declared.slots.State.{State}
use Rattle.gs_pool.specs.declared.slots.State.TheVariants.{Free, Plain, AsideNode, AsideTree, RetiredNode, RetiredTree}
use Rattle.gs_pool.specs.Pool.{plain, aside, retired, is_aside, is_retired}
use Rattle.gs_pool.specs.Places.{node_in, mark_in, is_listed, is_whole, aside_state, retired_state}

-- a node in some state is the node itself
pub node_is_content : (st : State) (n : Node) → IsSome (node_in st n) → node_in st n ≡ Some n
node_is_content Free n h = absurd (true≢false (sym h))
node_is_content Plain n h = refl
node_is_content AsideNode n h = refl
node_is_content AsideTree n h = refl
node_is_content RetiredNode n h = refl
node_is_content RetiredTree n h = refl

-- a place whose mark is plain is on no list of nodes
pub unlisted_state : (st : State) (death : ℕ) → mark_in st death ≡ plain → is_listed st ≡ false
unlisted_state Free death h = refl
unlisted_state Plain death h = refl
unlisted_state AsideNode death h = absurd (true≢false (ap is_aside h))
unlisted_state AsideTree death h = absurd (true≢false (ap is_aside h))
unlisted_state RetiredNode death h = absurd (true≢false (ap is_retired h))
unlisted_state RetiredTree death h = absurd (true≢false (ap is_retired h))

-- if it is in use, it is in the state of plain nodes
pub plain_state : (st : State) (death : ℕ) (n : Node) → IsSome (node_in st n) → mark_in st death ≡ plain → st ≡ Plain
plain_state Free death n u h = absurd (true≢false (sym u))
plain_state Plain death n u h = refl
plain_state AsideNode death n u h = absurd (true≢false (ap is_aside h))
plain_state AsideTree death n u h = absurd (true≢false (ap is_aside h))
plain_state RetiredNode death n u h = absurd (true≢false (ap is_retired h))
plain_state RetiredTree death n u h = absurd (true≢false (ap is_retired h))

-- a place with no node is free
pub free_state_is : (st : State) (n : Node) → is_none (node_in st n) ≡ true → st ≡ Free
free_state_is Free n h = refl
free_state_is Plain n h = absurd (true≢false (sym h))
free_state_is AsideNode n h = absurd (true≢false (sym h))
free_state_is AsideTree n h = absurd (true≢false (sym h))
free_state_is RetiredNode n h = absurd (true≢false (sym h))
free_state_is RetiredTree n h = absurd (true≢false (sym h))

-- a place that is marked as set aside, or as retired, is on a list of nodes
pub aside_listed : (st : State) (death : ℕ) → is_aside (mark_in st death) ≡ true → is_listed st ≡ true
aside_listed Free death h = absurd (true≢false (sym h))
aside_listed Plain death h = absurd (true≢false (sym h))
aside_listed AsideNode death h = refl
aside_listed AsideTree death h = refl
aside_listed RetiredNode death h = refl
aside_listed RetiredTree death h = refl

pub retired_listed : (st : State) (death : ℕ) → is_retired (mark_in st death) ≡ true → is_listed st ≡ true
retired_listed Free death h = absurd (true≢false (sym h))
retired_listed Plain death h = absurd (true≢false (sym h))
retired_listed AsideNode death h = refl
retired_listed AsideTree death h = refl
retired_listed RetiredNode death h = refl
retired_listed RetiredTree death h = refl

-- the states of nodes that are set aside or retired are those of nodes on a list
pub aside_is_listed : (whole : Bool) → is_listed (aside_state whole) ≡ true
aside_is_listed true = refl
aside_is_listed false = refl

pub retired_is_listed : (whole : Bool) → is_listed (retired_state whole) ≡ true
retired_is_listed true = refl
retired_is_listed false = refl

-- a node that is set aside or retired, alone or with all below it, is in use and marked so
pub node_in_aside : (whole : Bool) (n : Node) → node_in (aside_state whole) n ≡ Some n
node_in_aside true n = refl
node_in_aside false n = refl

pub mark_in_aside : (whole : Bool) (death : ℕ) → mark_in (aside_state whole) death ≡ aside death whole
mark_in_aside true death = refl
mark_in_aside false death = refl

pub node_in_retired : (whole : Bool) (n : Node) → node_in (retired_state whole) n ≡ Some n
node_in_retired true n = refl
node_in_retired false n = refl

pub mark_in_retired : (whole : Bool) (death : ℕ) → mark_in (retired_state whole) death ≡ retired death whole
mark_in_retired true death = refl
mark_in_retired false death = refl

-- a place marked as set aside is in one of two states
pub aside_place : (st : State) (death : ℕ) (n : Node) → is_aside (mark_in st death) ≡ true → (mark_in st death ≡ aside death (is_whole st)) × (node_in st n ≡ Some n)
aside_place Free death n h = absurd (true≢false (sym h))
aside_place Plain death n h = absurd (true≢false (sym h))
aside_place AsideNode death n h = (refl, refl)
aside_place AsideTree death n h = (refl, refl)
aside_place RetiredNode death n h = absurd (true≢false (sym h))
aside_place RetiredTree death n h = absurd (true≢false (sym h))

-- a place marked as retired is in one of two states
pub retired_place : (st : State) (death : ℕ) (n : Node) → is_retired (mark_in st death) ≡ true → (mark_in st death ≡ retired death (is_whole st)) × (node_in st n ≡ Some n)
retired_place Free death n h = absurd (true≢false (sym h))
retired_place Plain death n h = absurd (true≢false (sym h))
retired_place AsideNode death n h = absurd (true≢false (sym h))
retired_place AsideTree death n h = absurd (true≢false (sym h))
retired_place RetiredNode death n h = (refl, refl)
retired_place RetiredTree death n h = (refl, refl)

-- a free place is marked as plain
pub free_state : (st : State) (death : ℕ) (n : Node) → is_none (node_in st n) ≡ true → (mark_in st death ≡ plain) × (node_in st n ≡ None)
free_state Free death n h = (refl, refl)
free_state Plain death n h = absurd (true≢false (sym h))
free_state AsideNode death n h = absurd (true≢false (sym h))
free_state AsideTree death n h = absurd (true≢false (sym h))
free_state RetiredNode death n h = absurd (true≢false (sym h))
free_state RetiredTree death n h = absurd (true≢false (sym h))
