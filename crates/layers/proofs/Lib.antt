mod Carried
mod Indexed
mod Moved
mod ReplacedApart
mod ReplacedLists
mod Whites
