mod Composing
mod Deciding
mod Heading
mod Leaving
mod Looks
mod Names
mod Planning
