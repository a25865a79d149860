mod Alone
mod Conforming
mod Crewed
